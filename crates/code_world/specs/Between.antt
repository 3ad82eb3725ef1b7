-- Between the instructions of a leg and what comes of them.
--   IsBetween     a table out of which a running revision was taken,
--                 and what the instructions of its leg came to, where
--                 a child gets this number
--   HasReadOf     the notes have what a leg of the revision of this number reads more, if it is a running one
use Rattle.std.specs.Prelude.{ℕ, ◌≡◌, length, Option, Some}
use Rattle.rev_num.specs.Path.{Path}
use Rattle.rev_code.specs.State.{State}
use Rattle.revision_machine.specs.Machine.{Plain}
use Rattle.revision_machine.specs.Numbered.{Entries, World, Listing, at_number, put_number}
use Rattle.code_machine.specs.Local.{CodeRun, Local, at_work}
use Rattle.code_machine_laws.specs.LegReads.{leg_reads}
use Rattle.block_run.specs.declared.notes.ReadMarks.{ReadMarks}
use Rattle.leg_run.specs.Marks.{marks_of, HasMarked}
use Rattle.code_world.specs.declared.advance.Came.{Came}
use Rattle.code_world.specs.declared.slot.WorldSlot.{WorldSlot}
use Rattle.code_world.specs.declared.slot.WorldSlot.TheVariants as slot
use Rattle.code_world.specs.declared.table.Table.{Table}
use Rattle.code_world.specs.declared.world.World as rust
use Rattle.code_world.specs.declared.world.World.TheVariants as world
use Rattle.code_world.specs.LegOutcomes.{HasCome}
use Rattle.code_world.specs.Slots.{WholeRunner, Runs}
use Rattle.code_world.specs.Turns.{IsGood}

pub record IsBetween (g : CodeRun) (t : Table) (w : Entries (Local ℕ)) (n : ℕ) (t' : Table) (child : ℕ) (k : Came)
    : Type 0 where
  pub good : IsGood g t w
  pub runner : WholeRunner
  pub there : at_number t.slots.items n ≡ Some (slot.Running runner)
  pub taken : t'.slots.items ≡ put_number t.slots.items n slot.Taken
  pub births : t'.births ≡ t.births
  pub next : child ≡ length t.slots.items
  pub comes : (c : State ℕ) → Runs g runner c → HasCome g child c k

-- ---- notes

abbrev pub HasRead : CodeRun → Entries (Local ℕ) → ℕ → (old new : ReadMarks) → Type 0
HasRead g w n old new =
    (p : Path) (c : State ℕ) → at_number w n ≡ Some (p, Plain (at_work c))
    → HasMarked old new (marks_of (leg_reads g c))

-- of one that stands at its join, has ended or is none of the world nothing is noted
abbrev pub HasReadOf : CodeRun → Option WorldSlot → Entries (Local ℕ) → ℕ → (old new : ReadMarks) → Type 0
HasReadOf g (Some (slot.Running r)) w n old new = HasRead g w n old new
HasReadOf g _ w n old new = new ≡ old

abbrev pub HasReadIn : CodeRun → rust.World → World (Local ℕ) → ℕ → (old new : ReadMarks) → Type 0
HasReadIn g (world.Live t) (Listing w) n old new = HasReadOf g (at_number t.slots.items n) w n old new
HasReadIn g _ _ n old new = new ≡ old
