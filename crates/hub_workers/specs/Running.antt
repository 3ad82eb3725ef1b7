-- A run by threads.
--   IsSeatFor     a seat for the run that this hub began
--   IsHandFor     a hand for the run that this hub began
--   IsRunFrom     what a run leaves that began in a state, with snapshots of a group
use Rattle.std.specs.Prelude.{◌≡◌, ℕ, List, Some}
use Rattle.hub_core.specs.HubMachine.{HubMachine}
use Rattle.hub_core.specs.declared.kept.Kept.{Kept}
use Rattle.turn_hub.specs.declared.closing.HubRun.{HubRun}
use Rattle.turn_hub.specs.declared.hub.TurnHub.{TurnHub}
use Rattle.hub_core.specs.declared.revision.Revision.{Ghosts}
use Rattle.turn_hub.specs.declared.seat.HubSeat.{HubSeat}
use Rattle.turn_hub.specs.Closing.{ClosedHub}
use Rattle.turn_hub.specs.Names.{IsSeatOf, view_of, began, run_start, run_group, run_state, run_schedule, run_forkers, run_ends}

module _ {M S R A E C P : Type 0} {g : Ghosts M S R A E C P} where
  abbrev pub IsSeatFor : TurnHub M S R A E C P → HubSeat M S R A E C P g → Type 0
  IsSeatFor hub seat =
      IsSeatOf hub seat × ((view_of seat).start ≡ (began hub).start)
      × ((view_of seat).group ≡ (began hub).group)

module _ {H M S R A E C P : Type 0} (begins : H → S → Type 0) (group : H → List ℕ) where
  abbrev pub IsHandFor : TurnHub M S R A E C P → H → Type 0
  IsHandFor hub hand =
      (group hand ≡ (began hub).group)
      × ((start : S) × ((began hub).start ≡ Some start) × begins hand start)

module _ {M S R A E C P : Type 0} {g : Ghosts M S R A E C P} (d : HubMachine S R A E) (ends : E → S → Type 0) where
  -- the run tells where it began and what its snapshots belong to. Its schedule is legal,
  -- or in Twice its last entry joined
  -- what was joined; where no halt was entered it is complete, and it has the ends of all revisions without the mark
  pub record IsRunFrom (start : S) (group : List ℕ) (run : HubRun M S R A E C P g) : Type 0 where
    pub start_is : run_start run ≡ Some start
    pub group_is : run_group run ≡ group
    pub kept : List (Kept R A)
    pub taken : ℕ → ℕ
    pub closed :
        ClosedHub d ends start group (run_state run) (run_schedule run) (run_forkers run) (run_ends run) kept taken
