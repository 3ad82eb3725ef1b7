-- With what a revision of a world begins that has made no instruction.
--   running_in  the running revision in a place of a table, if there is one
--   IsBegun     what is said of one that begins so
--   FreshIn     of the revision of this number, which is a running one;
--               and nothing where it is not fresh, or stands at a
--               join, to which the instructions of its leg have led it
--   FreshAt     of a world; nothing in Twice
use Rattle.std.specs.Prelude.{ℕ, ◌≡◌, Option, Some, None}
use Rattle.rev_num.specs.Path.{Path}
use Rattle.rev_code.specs.State.{State}
use Rattle.block_run.specs.Agreement.{AreWords}
use Rattle.revision_machine.specs.Machine.{Plain}
use Rattle.revision_machine.specs.Numbered.{Entries, World, Listing, at_number}
use Rattle.code_machine.specs.Local.{CodeRun, Local, at_work}
use Rattle.code_memos.specs.Leaf.{Fresh, IsFresh}
use Rattle.code_world.specs.declared.freshness.FreshStart.{FreshStart}
use Rattle.code_world.specs.declared.slot.WorldSlot.{WorldSlot}
use Rattle.code_world.specs.declared.slot.WorldSlot.TheVariants as slot
use Rattle.code_world.specs.declared.table.Table.{Table}
use Rattle.code_world.specs.declared.world.World as rust_world
use Rattle.code_world.specs.declared.world.World.TheVariants as world
use Rattle.code_world.specs.Slots.{WholeJoin, WholeRunner}

abbrev pub running_in : Option WorldSlot → Option WholeRunner
running_in (Some (slot.Running r)) = Some r
running_in _ = None

pub record IsBegun (f : Fresh ℕ) (x : FreshStart) : Type 0 where
  pub block : x.block ≡ f.block
  pub args : AreWords f.args x.args.items
  pub base : AreWords f.snapshot x.base.items
  pub fuel : x.fuel ≡ f.fuel

abbrev pub FreshIn : CodeRun → Table → Entries (Local ℕ) → ℕ → Option FreshStart → Type 0
FreshIn g t w n (Some x) =
    (r : Path) × (c : State ℕ) × (f : Fresh ℕ) × (at_number w n ≡ Some (r, Plain (at_work c)))
    × IsFresh g.code f c × IsBegun f x
    × ((a : WholeRunner) × (at_number t.slots.items n ≡ Some (slot.Running a)))
FreshIn g t w n None =
    (r : Path) (c : State ℕ) (f : Fresh ℕ) → at_number w n ≡ Some (r, Plain (at_work c)) → IsFresh g.code f c
    → (a : WholeJoin) × (at_number t.slots.items n ≡ Some (slot.Standing a))

abbrev pub FreshAt : CodeRun → rust_world.World → World (Local ℕ) → ℕ → Option FreshStart → Type 0
FreshAt g (world.Live t) (Listing w) n o = FreshIn g t w n o
FreshAt g _ _ n o = o ≡ None
