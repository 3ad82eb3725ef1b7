-- Answers of shape_laws: main begins in its shape and each step keeps it, and the place of a fault is a lemma.
use Rattle.revision_machine.proofs.KeptByEvents.{kept_law}
use Rattle.revision_calculus.specs.Calculus.{calculus, main}
use Rattle.revision_calculus.specs.KeptBySteps.{IsShaped}
use Rattle.revision_calculus.proofs.Placed.{place_law}
use Rattle.revision_calculus.proofs.Shapes.{shape_kept, main_shaped}
use Rattle.revision_calculus.proofs.laws.shape_laws.Goals as goal

pub returns : goal.returns
returns c = record {
  shaped = λ s fuel. kept_law (calculus s) (main s fuel) (IsShaped s) (shape_kept s) (main_shaped s fuel);
  placed = place_law;
}
