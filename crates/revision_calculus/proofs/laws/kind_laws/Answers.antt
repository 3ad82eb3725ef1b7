-- Answers of kind_laws: main begins with values of their kinds and each step keeps them; the rest are lemmas.
use Rattle.revision_machine.proofs.KeptByEvents.{kept_law}
use Rattle.revision_calculus.specs.Calculus.{calculus, main}
use Rattle.revision_calculus.specs.Kinded.{IsKinded}
use Rattle.revision_calculus.proofs.StepKinds.{value_law, kind_kept, main_kinded, join_law}
use Rattle.revision_calculus.proofs.MergeCauses.{merge_law}
use Rattle.revision_calculus.proofs.laws.kind_laws.Goals as goal

pub returns : goal.returns
returns c = record {
  kinded = λ s fuel well. kept_law (calculus s) (main s fuel) (IsKinded s) (kind_kept s well) (main_kinded s well fuel);
  values = value_law;
  merges = merge_law;
  joins = λ s fuel well. join_law s well fuel;
}
