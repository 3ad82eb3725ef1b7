-- The replay of a schedule as a function, and the local state of a number in it.
--   replay N main ns         the world after a schedule, where it is legal
--   state_after N main ns n  the local state of a number after a schedule
--   IsNotIn n ns             n is not among these
use Rattle.std.specs.Prelude.{Option, Some, None, ◌≢◌, ℕ, List, [], ◌∷◌}
use Rattle.rev_num.specs.Path.{Path}
use Rattle.revision_machine.specs.Machine.{Entry}
use Rattle.revision_machine.specs.Laws.{local_of}
use Rattle.revision_machine.specs.Numbered.{Numbered, World, Both, Listing, at_number, leg, begin}

abbrev pub IsNotIn : ℕ → List ℕ → Type 0
IsNotIn n [] = Unit {0}
IsNotIn n (m ∷ ms) = (m ≢ n) × IsNotIn n ms

abbrev pub state_here : {L : Type 0} → Option (Path × Entry L) → Option L
state_here None = None
state_here (Some (r, e)) = Some (local_of e)

-- the local state of a number
abbrev pub state_in : {L : Type 0} → World L → ℕ → Option L
state_in Both n = None
state_in (Listing w) n = state_here (at_number w n)

abbrev pub state_of : {L : Type 0} → Option (World L) → ℕ → Option L
state_of None n = None
state_of (Some w) n = state_in w n

module _ (N : Numbered) where
  -- the world after these legs, where each of them is one
  abbrev pub goes_on : Option (World N.Local) → List ℕ → Option (World N.Local)
  goes_on None ns = None
  goes_on (Some w) [] = Some w
  goes_on (Some w) (n ∷ ns) = goes_on (leg N w n) ns

  abbrev pub replay : N.Local → List ℕ → Option (World N.Local)
  replay main ns = goes_on (Some (begin N main)) ns

  abbrev pub state_after : N.Local → List ℕ → ℕ → Option N.Local
  state_after main ns n = state_of (replay main ns) n
