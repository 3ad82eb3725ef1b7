-- Answers of affine: the walk finds no breach just where the affine rule holds, and then a run never joins twice.
use Rattle.std.proofs.Common.{◌∙◌, sym, subst}
use Rattle.rev_syntax.specs.Trees.{ProgramTree}
use Rattle.rev_syntax.specs.View.{program as whole}
use Rattle.revision_calculus.specs.Kinded.{IsAccepted}
use Rattle.revision_calculus.proofs.FunKinds.{rules_kept}
use Rattle.affine_check.specs.Affine.{IsAffine}
use Rattle.affine_check.proofs.Paths.{affine_once}
use Rattle.affine_check.proofs.Freedom.{never_twice}
use Rattle.typed_programs.specs.declared.typed.Typed.{Typed}
use Rattle.affine_check.proofs.Decided.{keeps, refused}
use Rattle.affine_check.proofs.checker.affine.Goals as goal

accepted : (t : Typed) → IsAccepted (whole t.expanded.program)
accepted t = record { small = t.expanded.small; funs = t.expanded.keeps_rules; rules = t.well_typed }

pub returns-in-None-clause-keeps : goal.returns-in-None-clause-keeps
returns-in-None-clause-keeps c =
    keeps (whole c.args.typed.now.expanded.program)
    (rules_kept (whole c.args.typed.now.expanded.program) (accepted c.args.typed.now))
    (sym c.in_ok-first_broken.ensures ∙ c.in-None.is)

pub returns-in-None-clause-never : goal.returns-in-None-clause-never
returns-in-None-clause-never c s fuel e =
    let well : IsAccepted s.program = subst (λ (p : ProgramTree). IsAccepted p) (sym e) (accepted c.args.typed.now) in
    let affine : IsAffine s.program =
    subst (λ (p : ProgramTree). IsAffine p) (sym e) (returns-in-None-clause-keeps c) in
    never_twice s well (affine_once s.program (rules_kept s.program well) affine) fuel

pub returns-in-Some-clause-breaks : goal.returns-in-Some-clause-breaks
returns-in-Some-clause-breaks c =
    refused (whole c.args.typed.now.expanded.program)
    (rules_kept (whole c.args.typed.now.expanded.program) (accepted c.args.typed.now)) c.in-Some.fault
    (sym c.in_ok-first_broken.ensures ∙ c.in-Some.is)
