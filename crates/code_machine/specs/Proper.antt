-- What each revision of a world of verified code is, and how it ends.
--   IsProper       a revision at work is a typed state, and its locations have values of their
--                  kinds
--   IsOver         a revision is done or has trapped
use Rattle.std.specs.Prelude.{◌≡◌, ◌⊎◌, ℕ, List, Some}
use Rattle.rev_num.specs.Path.{Path}
use Rattle.code_soundness.specs.AcceptedCode.{notes_of}
use Rattle.code_soundness.specs.Typed.{AreLocations, location_kinds, IsRevision}
use Rattle.revision_machine.specs.Machine.{Entry}
use Rattle.revision_machine.specs.Laws.{local_of, KeptLaw}
use Rattle.revision_machine.specs.Numbered as numbers
use Rattle.revision_machine.specs.Numbered.{World, Both, Listing, at_number, begin, Replays}
use Rattle.code_machine.specs.Local.{CodeRun, IsVerified, running, done, trapped, Trap, Local}
use Rattle.code_machine.specs.Machines.{machine, numbered, IsMain, start_in}

pub record IsProper {H : Type 0} (g : CodeRun) (l : Local H) : Type 0 where
  pub revision : l.phase ≡ running → IsRevision g.code (notes_of g.code) l.state
  pub locations : AreLocations (location_kinds g.code.vars) l.state.locations

-- of each revision of the world, with or without the mark
abbrev pub EachEntry : (Local ℕ → Type 0) → World (Local ℕ) → Type 0
EachEntry P Both = Unit {0}
EachEntry P (Listing w) =
    (m : ℕ) (r : Path) (e : Entry (Local ℕ)) → at_number w m ≡ Some (r, e) → P (local_of e)

abbrev pub IsOver : {H : Type 0} → Local H → Type 0
IsOver {H} l = (l.phase ≡ done) ⊎ ((t : Trap H) × (l.phase ≡ trapped t))

-- ---- laws

-- by paths
abbrev pub StatesAreProper : Type 0
StatesAreProper =
    (g : CodeRun) → IsVerified g → (n : ℕ) (m : IsMain g n) (fuel : ℕ)
    → KeptLaw (machine g) (start_in g n m.body fuel) (λ r l. IsProper g l)

-- by numbers
abbrev pub WorldsAreProper : Type 0
WorldsAreProper =
    (g : CodeRun) → IsVerified g → (n : ℕ) (m : IsMain g n) (fuel : ℕ)
    → (ns : List ℕ) (w : World (Local ℕ))
    → Replays (numbered g) (begin (numbered g) (start_in g n m.body fuel)) ns w
    → EachEntry (λ l. IsProper g l) w

-- a proper revision that does nothing more is over
abbrev pub StopsWhereOver : Type 0
StopsWhereOver =
    (g : CodeRun) → IsVerified g → (l : Local ℕ) → IsProper g l
    → (numbered g).next l ≡ numbers.Stops → IsOver l

-- where no number has a leg, each revision is done or has trapped
abbrev pub NoneIsBlocked : Type 0
NoneIsBlocked =
    (g : CodeRun) → IsVerified g → (n : ℕ) (m : IsMain g n) (fuel : ℕ)
    → (ns : List ℕ) (w : World (Local ℕ))
    → Replays (numbered g) (begin (numbered g) (start_in g n m.body fuel)) ns w
    → numbers.IsOver (numbered g) (start_in g n m.body fuel) w → EachEntry (λ l. IsOver l) w
