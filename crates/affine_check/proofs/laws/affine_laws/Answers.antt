-- Answers of affine_laws: a well-typed program that keeps the rule uses each handle once, and the rest follows.
use Rattle.revision_calculus.proofs.FunKinds.{rules_kept}
use Rattle.affine_check.proofs.Paths.{affine_once}
use Rattle.affine_check.proofs.Freedom.{never_twice, reached_owned, none_shared}
use Rattle.affine_check.proofs.laws.affine_laws.Goals as goal

pub returns : goal.returns
returns c = record {
  affine = λ s fuel well affine. never_twice s well (affine_once s.program (rules_kept s.program well) affine) fuel;
  uses_once = λ p well affine. affine_once p (rules_kept p well) affine;
  once = λ s fuel well once. never_twice s well once fuel;
  owners = λ s fuel well once. reached_owned s well once fuel;
  shared = λ s fuel well once. none_shared s well once fuel;
}
