-- Seats of one hub.
--   first_of    the first view of a hub, from the badge that is its key, or from that of a run
--   AreOf       they are seats of this hub
--   AreBehind   the schedule begins with each that one of them left at the end of a turn
--   AreNew      they are as the opening makes them
use Rattle.std.specs.Prelude.{◌≡◌, ℕ, List, [], ◌∷◌, Option}
use Rattle.atomic_table.specs.Seated.{TableId}
use Rattle.atomic_table.specs.declared.shared.Seat.{Seat}
use Rattle.hub_core.specs.declared.state.HubState.TheVariants.{All}
use Rattle.hub_core.specs.declared.view.View.{View}
use Rattle.hub_core.specs.declared.sight.Sight.{Sight}
use Rattle.hub_core.specs.Passes.{AreStartsOf}
use Rattle.hub_core.specs.TallySteps.{first_sight}

module _ {L : Type 0} where
  abbrev pub first_of : List (Sight L) → View L
  first_of vs = (first_sight vs).seat

module _ {S L : Type 0} where
  abbrev pub AreOf : TableId → List (Seat S (Sight L)) → Type 0
  AreOf id [] = Unit {0}
  AreOf id (s ∷ ss) = (s.table_id ≡ id) × AreOf id ss

  abbrev pub AreBehind : List ℕ → List (Seat S (Sight L)) → Type 0
  AreBehind log [] = Unit {0}
  AreBehind log (s ∷ ss) = AreStartsOf log s.me.0.seat.turns × AreBehind log ss

  -- of this start and group, with no pass
  abbrev pub AreNew : Option L → List ℕ → List (Seat S (Sight L)) → Type 0
  AreNew start group [] = Unit {0}
  AreNew start group (s ∷ ss) =
      (s.me.0.seat.start ≡ start) × (s.me.0.seat.group ≡ group) × (s.me.0.seat.passes ≡ [])
      × (s.me.0.seat.saw ≡ 0) × (s.me.0.seat.halt ≡ All) × AreNew start group ss
