-- For which worlds a table of revisions stands.
--   AreSlots    what it has of each revision
--   AreForks    how many forks each has made
--   HasPath     the path of a revision: that of its forker, and which of its forks it was
--   AreNamed    the paths of all
--   forks_of    all forks together
--   IsTable     a table of these revisions
--   IsWorld     this world, by number
use Rattle.std.specs.Prelude.{ℕ, zero, suc, ◌≡◌, ◌≤◌, ◌+◌, List, [], ◌∷◌, length, Some}
use Rattle.rev_num.specs.Path.{Path, child}
use Rattle.revision_machine.specs.Laws.{local_of}
use Rattle.revision_machine.specs.Numbered.{Entries, World, Both, Listing, at_number, paths_of}
use Rattle.code_machine.specs.Local.{CodeRun, Local}
use Rattle.code_world.specs.declared.slot.WorldSlot.{WorldSlot}
use Rattle.code_world.specs.declared.table.Birth.{Birth}
use Rattle.code_world.specs.declared.table.Table.{Table}
use Rattle.code_world.specs.declared.world.World as rust
use Rattle.code_world.specs.declared.world.World.TheVariants as world
use Rattle.code_world.specs.Slots.{IsEntry}

abbrev pub AreSlots : CodeRun → List WorldSlot → Entries (Local ℕ) → Type 0
AreSlots g [] [] = Unit {0}
AreSlots g (s ∷ ss) (x ∷ w) = IsEntry g s x.1 × AreSlots g ss w
AreSlots g [] (x ∷ w) = ⊥
AreSlots g (s ∷ ss) [] = ⊥

abbrev pub AreForks : List Birth → Entries (Local ℕ) → Type 0
AreForks [] [] = Unit {0}
AreForks (b ∷ bs) (x ∷ w) = (b.forks ≡ (local_of x.1).state.forks) × AreForks bs w
AreForks [] (x ∷ w) = ⊥
AreForks (b ∷ bs) [] = ⊥

-- `main` has the empty path
abbrev pub HasPath : List Path → ℕ → Birth → Type 0
HasPath paths zero b = at_number paths 0 ≡ Some []
HasPath paths (suc n) b =
    (q : Path) × (b.forker ≤ n) × (at_number paths b.forker ≡ Some q)
    × (at_number paths (suc n) ≡ Some (child q b.place))

abbrev pub AreNamed : List Birth → List Path → Type 0
AreNamed bs paths = (n : ℕ) (b : Birth) → at_number bs n ≡ Some b → HasPath paths n b

abbrev pub forks_of : List Birth → ℕ
forks_of [] = 0
forks_of (b ∷ bs) = b.forks + forks_of bs

pub record IsTable (g : CodeRun) (t : Table) (w : Entries (Local ℕ)) : Type 0 where
  pub slots : AreSlots g t.slots.items w
  pub forks : AreForks t.births.items w
  pub named : AreNamed t.births.items (paths_of w)
  -- each revision but `main` was forked
  pub counted : forks_of t.births.items + 1 ≡ length t.births.items

abbrev pub IsWorld : CodeRun → rust.World → World (Local ℕ) → Type 0
IsWorld g world.Twice Both = Unit {0}
IsWorld g (world.Live t) (Listing w) = IsTable g t w
IsWorld g world.Twice (Listing w) = ⊥
IsWorld g (world.Live t) Both = ⊥
