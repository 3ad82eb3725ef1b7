-- Answers of recorded: the run before has the words' earlier numbers, which are few, and the code of the program.
use Rattle.std.proofs.Common.{◌∙◌, ◌<◌, ◌^◌, sym, subst, List, length, arith}
use Rattle.std.specs.Prelude.{ℤ}
use Rattle.mode_reports.proofs.Repeating.{recorded_by}
use Rattle.mode_reports.proofs.repeats.recorded.Goals as goal

pub record_code-requires-clause-inputs : goal.record_code-requires-clause-inputs
record_code-requires-clause-inputs c =
    let short = c.requires.before in
    subst (λ (zs : List ℤ). length zs < 2 ^ 32) (sym (c.in_ok-before.ensures.items ∙ c.as_slice.ensures))
    (omega (arith, short))

pub returns : goal.returns
returns c =
    recorded_by c.args.words.now c.args.typed.now c.in_ok-code.code.code c.in_ok-before.before.items
    c.record_code.result
    c.in_ok-code.ensures (c.in_ok-before.ensures.items ∙ c.as_slice.ensures) c.record_code.ensures
