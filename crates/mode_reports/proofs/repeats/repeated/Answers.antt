-- Answers of repeated: both runs are of the program's one code, so the memo of the first has entries for the second.
use Rattle.std.proofs.Common.{◌∙◌, sym, subst}
use Rattle.rev_code.specs.declared.code.Code.{Code}
use Rattle.rev_record.specs.Memos.{HasEntries}
use Rattle.mode_reports.proofs.Repeating.{reused_by, repeated_by}
use Rattle.mode_reports.proofs.repeats.repeated.Goals as goal

pub repeat_code-requires-clause-memo : goal.repeat_code-requires-clause-memo
repeat_code-requires-clause-memo c =
    let m = c.in_ok-memo.ensures in
    (m.known, subst (λ (x : Code). HasEntries x c.in_ok-memo.memo m.known) (sym c.in_ok-code.ensures) m.entries)

pub returns-clause-outcome : goal.returns-clause-outcome
returns-clause-outcome c =
    repeated_by c.args.words.now c.args.typed.now c.in_ok-code.code.code c.in_ok-numbers.numbers.items
    c.repeat_code.result
    c.in_ok-code.ensures (c.in_ok-numbers.ensures.items ∙ c.as_slice.ensures) c.repeat_code.ensures.outcome

pub returns-clause-reused : goal.returns-clause-reused
returns-clause-reused c =
    let m = c.in_ok-memo.ensures in
    reused_by c.args.words.now c.args.typed.now c.in_ok-code.code.code c.in_ok-numbers.numbers.items c.in_ok-memo.memo
    c.repeat_code.result
    c.in_ok-code.ensures (c.in_ok-numbers.ensures.items ∙ c.as_slice.ensures) m
    (c.repeat_code.ensures.reused m.known
    (subst (λ (x : Code). HasEntries x c.in_ok-memo.memo m.known) (sym c.in_ok-code.ensures) m.entries))
