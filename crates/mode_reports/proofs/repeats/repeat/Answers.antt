-- Answers of repeat: a text that is at fault leaves with its first fault, and a checked program is repeated.
use Rattle.rev_syntax.specs.View.{program as whole}
use Rattle.typed_programs.specs.declared.typed.Typed.{Typed}
use Rattle.rev_report.specs.Report.{output}
use Rattle.mode_reports.specs.Answer.{Repeats, SaysAs}
use Rattle.mode_reports.specs.Texts.{Checks}
use Rattle.mode_reports.proofs.Stages.{goes_on, leaves}
use Rattle.mode_reports.proofs.repeats.repeat.Goals as goal

pub returns-in_err-typed : goal.returns-in_err-typed
unfolding SaysAs
returns-in_err-typed c =
    leaves (Checks c.args.text.now) (Repeats c.args.words.now) (λ (t : Typed). whole t.expanded.program) output
    _ c.in_err-typed.field-0.0 c.from_residual.ensures.1 c.in_err-typed.ensures

pub returns : goal.returns
unfolding SaysAs
returns c =
    goes_on (Checks c.args.text.now) (Repeats c.args.words.now) output
    (whole c.in_ok-typed.typed.expanded.program) c.repeat_program.result c.in_ok-typed.ensures c.repeat_program.ensures
