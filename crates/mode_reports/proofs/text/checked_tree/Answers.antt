-- Answers of checked_tree: a fault of the funs leaves first, and then the program is checked by the typing rules.
use Rattle.rev_syntax.specs.View.{program as whole}
use Rattle.typed_programs.specs.declared.expanded.Expanded.{Expanded}
use Rattle.typed_programs.specs.declared.typed.Typed.{Typed}
use Rattle.mode_reports.specs.Texts.{KeepsFuns, KeepsTypes}
use Rattle.mode_reports.proofs.Stages.{goes_on, leaves}
use Rattle.mode_reports.proofs.text.checked_tree.Goals as goal

pub returns-in_err-expanded : goal.returns-in_err-expanded
returns-in_err-expanded c =
    leaves (KeepsFuns c.args.text.now (whole c.args.program)) (KeepsTypes c.args.text.now)
    (λ (e : Expanded). whole e.program) (λ (t : Typed). whole t.expanded.program)
    _ c.in_err-expanded.field-0.0 c.from_residual.ensures.1 c.in_err-expanded.ensures

pub returns : goal.returns
returns c =
    goes_on (KeepsFuns c.args.text.now (whole c.args.program)) (KeepsTypes c.args.text.now)
    (λ (t : Typed). whole t.expanded.program) (whole c.in_ok-expanded.expanded.program) c.typed_of.result
    c.in_ok-expanded.ensures c.typed_of.ensures
