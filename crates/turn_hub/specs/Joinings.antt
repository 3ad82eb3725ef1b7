-- What a joiner finds of its joinee, by the statuses that the seat knows in its turn.
--   IsGoneIn, IsOpenIn    at each moment of the turn it was joined; it has not ended
--   IsTrackedIn, IsJoinee   whether there is a record of it, and what that says
--   IsBefore              a turn that was given back as if there had been none lies between two views
--   IsShutAt              the plan was carried out with this halt, and the tally that was found counts the revisions
use Rattle.std.specs.Prelude.{◌≡◌, ◌*◌, ℕ, false, List, length, Option, Some, None}
use Rattle.revision_machine.specs.Numbered.{at_number}
use Rattle.hub_core.specs.HubMachine.{HubMachine}
use Rattle.hub_core.specs.declared.status.Status.{Status}
use Rattle.hub_core.specs.declared.status.Status.TheVariants.{Over, Gone}
use Rattle.hub_core.specs.declared.state.HubState.{HubState}
use Rattle.hub_core.specs.declared.sight.Sight.{Sight}
use Rattle.hub_core.specs.declared.desk.Desk.{Desk}
use Rattle.hub_core.specs.Found.{ended_here}
use Rattle.hub_core.specs.Tally.{records_of, record_at, HasDesk, Now, Shut}
use Rattle.hub_core.specs.TallySteps.{kept_after}
use Rattle.hub_core.specs.declared.view.View.{View}
use Rattle.turn_hub.specs.Answers.{IsHalted}
use Rattle.turn_hub.specs.Turns.{IsIn}
use Rattle.turn_hub.specs.declared.joinee.Joinee.{Joinee}
use Rattle.turn_hub.specs.declared.joinee.Joinee.TheVariants as joinee

module _ {L R A E : Type 0} (d : HubMachine L R A E) (ends : E → L → Type 0) where
  abbrev pub IsGoneIn : Sight L → List (Status R A E) → ℕ → Type 0
  IsGoneIn v before n =
      (start : L) (log out lone : List ℕ) (slots : List (Status R A E)) (fs : List ℕ)
      → Now d ends v start before log out lone slots fs → at_number slots n ≡ Some Gone

  abbrev pub IsOpenIn : Sight L → List (Status R A E) → ℕ → Type 0
  IsOpenIn v before n =
      (start : L) (log out lone : List ℕ) (slots : List (Status R A E)) (fs : List ℕ)
      → Now d ends v start before log out lone slots fs → ended_here (at_number slots n) ≡ false

  abbrev pub IsShutAt : HubState → Sight L → Sight L → Desk R A E → ℕ → Type 0
  IsShutAt h v w desk count =
      (start : L) (hand : HasDesk d ends v desk) → v.seat.start ≡ Some start
      → (shut : Shut d ends h v w start hand.slots desk.plan.deeds.items (kept_after desk v.mine) (kept_after desk))
      × (count ≡ 2 * length shut.slots)

module _ {R A E : Type 0} where
  -- where joiners are tracked there is a record of it
  abbrev pub IsTrackedIn : Desk R A E → ℕ → Type 0
  IsTrackedIn desk n = desk.strays ≡ false → (x : Status R A E) × (record_at (records_of desk) n ≡ Some x)

  -- what the record of a joinee says
  abbrev pub IsJoinee : Option (Status R A E) → Joinee → Type 0
  IsJoinee o joinee.Over = (e : E) × (o ≡ Some (Over e))
  IsJoinee o joinee.Gone = o ≡ Some Gone
  IsJoinee o joinee.Open = (x : Status R A E) × (o ≡ Some x) × (ended_here (Some x) ≡ false)
  IsJoinee o joinee.Nowhere = o ≡ None

module _ {L R A E : Type 0} (d : HubMachine L R A E) (ends : E → L → Type 0) where
  -- what is told of a turn behind this view is told of the view before
  pub record IsBefore (v w : Sight L) : Type 0 where
    pub turn : (x : Sight L) (desk : Desk R A E) → IsIn d ends w x desk → IsIn d ends v x desk
    pub halted : (x : View L) → IsHalted w.seat x → IsHalted v.seat x
    pub turns : w.seat.turns ≡ v.seat.turns
