-- Runs to the end.
--   HasTried       the leg of this number was made, or it has none
--   HasLeast       the leg of the least number that has one was made, or there is none
--   HasFinished    the least numbers in turn lead from this world to the end
use Rattle.std.specs.Prelude.{ℕ, ◌≡◌, ◌<◌, List, Some, None}
use Rattle.revision_machine.specs.Numbered as numbers
use Rattle.revision_machine.specs.Numbered.{World, Least, CompleteSchedule}
use Rattle.code_machine.specs.Local.{CodeRun, Local}
use Rattle.code_machine.specs.Machines.{numbered}
use Rattle.code_world.specs.declared.world.World as rust
use Rattle.code_world.specs.Tables.{IsWorld}
use Rattle.code_machine_laws.specs.Reached.{IsReached}
use Rattle.world_runs.specs.declared.queue.ReadyQueue.{ReadyQueue}
use Rattle.world_runs.specs.declared.made.Made.{Made}
use Rattle.world_runs.specs.declared.made.Made.TheVariants as made
use Rattle.world_runs.specs.Covers.{CoversWorld}

abbrev pub HasTried : CodeRun → World (Local ℕ) → ℕ → Made → (before after : ReadyQueue) → Type 0
HasTried g w n (made.Leg v) q q' =
    (u : World (Local ℕ)) × (numbers.leg (numbered g) w n ≡ Some u) × IsReached g u × IsWorld g v u
    × CoversWorld g u q'
HasTried g w n (made.None v) q q' =
    (numbers.leg (numbered g) w n ≡ None) × IsWorld g v w × CoversWorld g w q'
    × (q'.ready ≡ q.ready)

abbrev pub HasLeast : CodeRun → World (Local ℕ) → Made → ReadyQueue → Type 0
HasLeast g w (made.Leg v) q =
    (n : ℕ) × (u : World (Local ℕ)) × (numbers.leg (numbered g) w n ≡ Some u)
    × ((m : ℕ) → m < n → numbers.leg (numbered g) w m ≡ None)
    × IsReached g u × IsWorld g v u × CoversWorld g u q
HasLeast g w (made.None v) q =
    ((m : ℕ) → numbers.leg (numbered g) w m ≡ None) × IsWorld g v w

pub record HasFinished (g : CodeRun) (w : World (Local ℕ)) (v : rust.World) : Type 0 where
  pub schedule : List ℕ
  pub end : World (Local ℕ)
  -- whatever local state `main` began with, which is of no account to what has a leg
  pub least : (main : Local ℕ) → Least (numbered g) main w schedule end
  pub complete : (main : Local ℕ) → CompleteSchedule (numbered g) main w schedule end
  pub reached : IsReached g end
  pub world : IsWorld g v end
