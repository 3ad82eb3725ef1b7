-- What became of a try to fork in a turn, where the child goes to the hub.
use Rattle.std.specs.Prelude.{◌≡◌, ◌≤◌, ℕ, []}
use Rattle.atomic_table.specs.Table.{Me}
use Rattle.hub_core.specs.HubMachine.{HubMachine}
use Rattle.hub_core.specs.declared.state.HubState.TheVariants.{All}
use Rattle.hub_core.specs.declared.sight.Sight.{Sight}
use Rattle.hub_core.specs.declared.desk.Desk.{Desk}
use Rattle.hub_core.specs.declared.desk.DeskSlot.{DeskSlot}
use Rattle.hub_core.specs.Seats.{HasFork, Owes}
use Rattle.hub_core.specs.Tally.{HasDesk}
use Rattle.turn_hub.specs.Answers.{Forked, ForkedBehind, IsHalted}
use Rattle.turn_hub.specs.declared.forked.Forking.{Forking}
use Rattle.turn_hub.specs.declared.forked.Forking.TheVariants.{Made, Missed, Halted}
use Rattle.turn_hub.specs.Turns.{IsOpen, IsIn, IsResting}

module _ {L R A E : Type 0} (d : HubMachine L R A E) (ends : E → L → Type 0) where
  abbrev pub ForkingSays :
      Me (DeskSlot R A E) (Sight L) → Me (DeskSlot R A E) (Sight L) → Desk R A E → ℕ → R → Forking R A E → Type 0
  ForkingSays me me' desk k c (Made n) =
      IsResting me me' × (me'.0.mine ≡ me.0.mine)
      × ((v : Sight L) → IsIn d ends v me.0 desk → HasFork d ends v.seat k c → Forked d ends v.seat me'.0.seat k c n)
  ForkingSays me me' desk k c (Missed next child) =
      IsOpen me' × HasDesk d ends me'.0 next.value × (next.value.state ≡ All) × (me'.0.mine ≡ me.0.mine)
      × (me'.0.seat ≡ me.0.seat) × (me'.0.rounds ≡ me.0.rounds) × (me.0.limit ≤ me'.0.limit)
      × ((v : Sight L) → IsIn d ends v me.0 desk → IsIn d ends v me'.0 next.value) × (child ≡ c)
  ForkingSays me me' desk k c (Halted child) =
      IsResting me me' × (me'.0.mine ≡ me.0.mine)
      × ((v : Sight L) → IsIn d ends v me.0 desk → IsHalted v.seat me'.0.seat) × (child ≡ c)

  -- the same behind the end of a joinee and its join
  abbrev pub BehindSays :
      Me (DeskSlot R A E) (Sight L) → Me (DeskSlot R A E) (Sight L) → Desk R A E → ℕ → ℕ → R → Forking R A E → Type 0
  BehindSays me me' desk i k c (Made n) =
      IsResting me me' × (me'.0.mine ≡ [])
      × ((v : Sight L) → IsIn d ends v me.0 desk → (l : L) → Owes d ends v.seat i k l
      → ForkedBehind d ends v.seat me'.0.seat i k l c n)
  BehindSays me me' desk i k c (Missed next child) =
      IsOpen me' × HasDesk d ends me'.0 next.value × (next.value.state ≡ All) × (me'.0.mine ≡ me.0.mine)
      × (me'.0.seat ≡ me.0.seat) × (me'.0.rounds ≡ me.0.rounds) × (me.0.limit ≤ me'.0.limit)
      × ((v : Sight L) → IsIn d ends v me.0 desk → IsIn d ends v me'.0 next.value) × (child ≡ c)
  BehindSays me me' desk i k c (Halted child) =
      IsResting me me' × (me'.0.mine ≡ me.0.mine)
      × ((v : Sight L) → IsIn d ends v me.0 desk → IsHalted v.seat me'.0.seat) × (child ≡ c)
