-- Answers of write_file: the code of an accepted program has counts that fit in a file.
use Rattle.std.proofs.Common.{◌∙◌, sym, subst}
use Rattle.rev_syntax.specs.View.{program as whole}
use Rattle.code_file.specs.Counts.{Counted}
use Rattle.program_code.proofs.Counting.{code_counted}
use Rattle.mode_reports.proofs.emits.write_file.Goals as goal

pub write_code-requires : goal.write_code-requires
write_code-requires c =
    let t = c.args.typed.now in
    subst Counted (sym (c.code.ensures.code ∙ c.in_ok-code.ensures))
    (code_counted (whole t.expanded.program)
    (record { small = t.expanded.small; funs = t.expanded.keeps_rules; rules = t.well_typed }))
