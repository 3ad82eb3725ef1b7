-- Worlds that are alike: a revision that was found to wait may stand at its join, behind the
-- instructions of its leg.
--   StandsFor     the leg of the first comes to a join, and the second stands at that join
--   AreAlike      worlds with the same paths and marks, and with local states that are equal or of
--                 which the second stands for the first
use Rattle.std.specs.Prelude.{◌≡◌, ◌⊎◌, ℕ, Bool, List, [], ◌∷◌, Option, Some, None}
use Rattle.rev_num.specs.Path.{Path}
use Rattle.rev_code.specs.State.{State}
use Rattle.rev_code.specs.Step.{joins}
use Rattle.revision_machine.specs.Machine.{Entry, Plain, Joined}
use Rattle.revision_machine.specs.Numbered as numbers
use Rattle.revision_machine.specs.Numbered.{Entries, World, Both, Listing, at_number, put_number}
use Rattle.code_machine.specs.Local.{CodeRun, IsVerified, Local, at_work}
use Rattle.code_machine.specs.Leg.{leg}
use Rattle.code_machine.specs.Machines.{numbered}
use Rattle.code_machine.specs.Worlds.{replay}

pub record StandsFor (g : CodeRun) (l l' : Local ℕ) : Type 0 where
  pub works : l ≡ at_work l.state
  pub still : l' ≡ at_work l'.state
  pub try : Bool
  pub joinee : ℕ
  pub stands : leg g l.state ≡ joins l'.state try joinee

abbrev pub IsAlike : CodeRun → Entry (Local ℕ) → Entry (Local ℕ) → Type 0
IsAlike g (Plain l) (Plain l') = (l ≡ l') ⊎ StandsFor g l l'
IsAlike g (Joined l) (Joined l') = l ≡ l'
IsAlike g (Plain l) (Joined l') = ⊥
IsAlike g (Joined l) (Plain l') = ⊥

abbrev pub EntriesAlike : CodeRun → Entries (Local ℕ) → Entries (Local ℕ) → Type 0
EntriesAlike g [] [] = Unit {0}
EntriesAlike g ((r, e) ∷ w) ((r', e') ∷ w') = (r ≡ r') × IsAlike g e e' × EntriesAlike g w w'
EntriesAlike g [] (x ∷ w') = ⊥
EntriesAlike g (x ∷ w) [] = ⊥

abbrev pub AreAlike : CodeRun → World (Local ℕ) → World (Local ℕ) → Type 0
AreAlike g Both Both = Unit {0}
AreAlike g (Listing w) (Listing w') = EntriesAlike g w w'
AreAlike g Both (Listing w') = ⊥
AreAlike g (Listing w) Both = ⊥

abbrev pub BothAlike : CodeRun → Option (World (Local ℕ)) → Option (World (Local ℕ)) → Type 0
BothAlike g None None = Unit {0}
BothAlike g (Some v) (Some v') = AreAlike g v v'
BothAlike g None (Some v') = ⊥
BothAlike g (Some v) None = ⊥

-- ---- laws

-- a world is like itself
abbrev pub WorldsAreAlike : Type 0
WorldsAreAlike = (g : CodeRun) (v : World (Local ℕ)) → AreAlike g v v

-- in worlds that are alike the same numbers have a leg, and after it the worlds are alike
abbrev pub LegsKeepAlike : Type 0
LegsKeepAlike =
    (g : CodeRun) → IsVerified g → (v v' : World (Local ℕ)) (n : ℕ) → AreAlike g v v'
    → BothAlike g (numbers.leg (numbered g) v n) (numbers.leg (numbered g) v' n)

-- and so the same schedules are legal
abbrev pub SchedulesKeepAlike : Type 0
SchedulesKeepAlike =
    (g : CodeRun) → IsVerified g → (v v' : World (Local ℕ)) (ns : List ℕ) → AreAlike g v v'
    → BothAlike g (replay (numbered g) v ns) (replay (numbered g) v' ns)

-- a revision whose leg comes to a join may be put at it
abbrev pub WaitingIsAlike : Type 0
WaitingIsAlike =
    (g : CodeRun) → IsVerified g → (w w' : Entries (Local ℕ)) (n : ℕ) (r : Path) (c c' : State ℕ)
    → (try : Bool) (m : ℕ) → EntriesAlike g w w' → at_number w' n ≡ Some (r, Plain (at_work c))
    → leg g c ≡ joins c' try m → EntriesAlike g w (put_number w' n (r, Plain (at_work c')))
