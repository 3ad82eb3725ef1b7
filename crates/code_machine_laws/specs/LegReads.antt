-- What a leg reads.
--   leg_reads          what its instructions read, by the clock of the leg
--   LegReadsOfSteps    is what the steps to its event read, and the instruction there
use Rattle.std.specs.Prelude.{◌≡◌, List, ◌++◌}
use Rattle.rev_code.specs.State.{State}
use Rattle.rev_code.specs.Step.{Comes}
use Rattle.code_machine_laws.specs.Reads.{Read, step_reads, reach_reads, reads_of}
use Rattle.code_machine_laws.specs.Instance.{CodeRun, IsVerified}
use Rattle.code_machine_laws.specs.Laws.{under}
use Rattle.code_machine_laws.specs.Legs.{IsLeg}
use Rattle.code_machine_laws.specs.Laws.{clock}

abbrev pub leg_reads : {H : Type 0} → CodeRun → State H → List (Read H)
leg_reads g c = reach_reads (under g) (clock g c) c

abbrev pub LegReadsOfSteps : Type 0 → Type 0
LegReadsOfSteps H =
    (g : CodeRun) → IsVerified g → (c : State H) (event : Comes H) (l : IsLeg (under g) c event)
    → leg_reads g c ≡ reads_of l.steps ++ step_reads (under g) l.last
