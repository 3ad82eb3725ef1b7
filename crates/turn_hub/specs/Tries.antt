-- What became of a try to fork and keep the child in a turn.
use Rattle.std.specs.Prelude.{◌≡◌, ◌≤◌, ℕ}
use Rattle.atomic_table.specs.Table.{Me}
use Rattle.hub_core.specs.HubMachine.{HubMachine}
use Rattle.hub_core.specs.declared.state.HubState.TheVariants.{All}
use Rattle.hub_core.specs.declared.sight.Sight.{Sight}
use Rattle.hub_core.specs.declared.desk.Desk.{Desk}
use Rattle.hub_core.specs.declared.desk.DeskSlot.{DeskSlot}
use Rattle.hub_core.specs.Seats.{Owes}
use Rattle.hub_core.specs.Tally.{HasDesk}
use Rattle.turn_hub.specs.Answers.{IsHalted}
use Rattle.turn_hub.specs.Keeping.{KeptBehind}
use Rattle.turn_hub.specs.declared.tried.Tried.{Tried}
use Rattle.turn_hub.specs.declared.tried.Tried.TheVariants.{Made, Missed, Halted}
use Rattle.turn_hub.specs.Turns.{IsOpen, IsIn, IsResting}
use Rattle.turn_hub.specs.Plans.{lone_list}

module _ {L R A E : Type 0} (d : HubMachine L R A E) (ends : E → L → Type 0) where
  abbrev pub TriedSays :
      Me (DeskSlot R A E) (Sight L) → Me (DeskSlot R A E) (Sight L) → Desk R A E → ℕ → ℕ → R → Tried R A E → Type 0
  TriedSays me me' desk i k c (Made n kept limit) =
      IsResting me me' × (me'.0.mine ≡ lone_list kept n) × (limit ≤ me'.0.limit)
      × ((v : Sight L) → IsIn d ends v me.0 desk → (l : L) → Owes d ends v.seat i k l
      → KeptBehind d ends v.seat me'.0.seat i k l c n c)
  TriedSays me me' desk i k c (Missed next) =
      IsOpen me' × HasDesk d ends me'.0 next.value × (next.value.state ≡ All) × (me'.0.mine ≡ me.0.mine)
      × (me'.0.seat ≡ me.0.seat) × (me'.0.rounds ≡ me.0.rounds) × (me.0.limit ≤ me'.0.limit)
      × ((v : Sight L) → IsIn d ends v me.0 desk → IsIn d ends v me'.0 next.value)
  TriedSays me me' desk i k c Halted =
      IsResting me me' × (me'.0.mine ≡ me.0.mine)
      × ((v : Sight L) → IsIn d ends v me.0 desk → IsHalted v.seat me'.0.seat)
