-- Answers of never_laws: the code of a program that never joins twice never does, and the affine rule keeps from it.
use Rattle.revision_calculus.proofs.FunKinds.{rules_kept}
use Rattle.affine_check.proofs.Freedom.{never_twice}
use Rattle.affine_check.proofs.Paths.{affine_once}
use Rattle.program_code.proofs.Simulated.{code_of_never}
use Rattle.program_code.proofs.never_laws.Goals as goal

pub returns : goal.returns
returns c = record {
  code = code_of_never;
  affine = λ s well affine fuel.
      code_of_never s well fuel (never_twice s well (affine_once s.program (rules_kept s.program well) affine) fuel);
}
