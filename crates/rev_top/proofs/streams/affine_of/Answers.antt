-- Answers of affine_of: a program that keeps the affine rule stays the same, and a fault is its first break.
use Rattle.std.proofs.Common.{refl}
use Rattle.rev_syntax.specs.View.{program as whole}
use Rattle.typed_programs.specs.declared.typed.Typed.{Typed}
use Rattle.rev_top.proofs.Handles.{refuses_affine}
use Rattle.rev_top.proofs.streams.affine_of.Goals as goal

pub returns-in-Ok : goal.returns-in-Ok
returns-in-Ok c = (refl, c.in-Ok.ensures.keeps)

pub returns-in-Err : goal.returns-in-Err
returns-in-Err c =
    refuses_affine (λ (t : Typed). whole t.expanded.program) c.args.text.now (whole c.args.typed.expanded.program)
    c.in-Err.fault c.of_affine.result c.of_affine.ensures c.in-Err.ensures.breaks
