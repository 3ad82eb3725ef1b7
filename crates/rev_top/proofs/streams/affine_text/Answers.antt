-- Answers of affine_text: a text that is at fault leaves with its first fault, and else the rule is tried.
use Rattle.rev_syntax.specs.View.{program as whole}
use Rattle.typed_programs.specs.declared.typed.Typed.{Typed}
use Rattle.mode_reports.specs.Affine.{KeepsAffine}
use Rattle.mode_reports.specs.Texts.{Checks}
use Rattle.mode_reports.proofs.Stages.{goes_on, leaves}
use Rattle.rev_top.proofs.streams.affine_text.Goals as goal

pub returns-in_err-typed : goal.returns-in_err-typed
returns-in_err-typed c =
    leaves (Checks c.args.text.now) (KeepsAffine c.args.text.now) (λ (t : Typed). whole t.expanded.program)
    (λ (t : Typed). whole t.expanded.program)
    _ c.in_err-typed.field-0.0 c.from_residual.ensures.1 c.in_err-typed.ensures

pub returns : goal.returns
returns c =
    goes_on (Checks c.args.text.now) (KeepsAffine c.args.text.now) (λ (t : Typed). whole t.expanded.program)
    (whole c.in_ok-typed.typed.expanded.program) c.affine_of.result c.in_ok-typed.ensures c.affine_of.ensures
