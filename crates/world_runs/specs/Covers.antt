-- Which revisions may have a leg.
--   IsCovered    the revision is ready, or has ended, or waits for one that has not
--   Covers       each revision of the world is covered
--   CoversBut    each but this one
--   IsKnown      a leg of this one came out so, and each other is covered
--   CoversAfter  each is, once that is noted
--   IsStill      where there was no leg, nothing was entered
use Rattle.std.specs.Prelude.{ℕ, ◌≡◌, ◌≢◌, length, Some}
use Rattle.revision_machine.specs.Numbered as numbers
use Rattle.revision_machine.specs.Numbered.{Entries, World, Both, Listing}
use Rattle.code_machine.specs.Local.{CodeRun, IsVerified, Local}
use Rattle.code_machine.specs.Machines.{numbered}
use Rattle.code_machine.specs.Worlds.{WaitsOn}
use Rattle.code_world.specs.Answers.{HasStopped, LegAnswers}
use Rattle.code_world.specs.declared.answer.LegAnswer.{LegAnswer}
use Rattle.code_world.specs.declared.answer.LegAnswer.TheVariants as answer
use Rattle.code_world.specs.declared.world.World as rust
use Rattle.code_machine_laws.specs.Laws.{HasNumber}
use Rattle.code_machine_laws.specs.Reached.{IsReached}
use Rattle.world_runs.specs.declared.queue.ReadyQueue.{ReadyQueue}
use Rattle.world_runs.specs.Queue.{HasReady, HasWaiter}

pub data IsCovered (g : CodeRun) (w : Entries (Local ℕ)) (q : ReadyQueue) (m : ℕ) : Type 0 where
  is_ready : HasReady q m → IsCovered g w q m
  has_stopped : HasStopped g w m → IsCovered g w q m
  waits_for : (k : ℕ) → WaitsOn g w m k → HasWaiter q k m → IsCovered g w q m

pub record Covers (g : CodeRun) (w : Entries (Local ℕ)) (q : ReadyQueue) : Type 0 where
  pub count : length q.waiters.items ≡ length w
  pub each : (m : ℕ) → HasNumber w m → IsCovered g w q m

pub record CoversBut (g : CodeRun) (w : Entries (Local ℕ)) (q : ReadyQueue) (n : ℕ) : Type 0 where
  pub count : length q.waiters.items ≡ length w
  pub each : (m : ℕ) → m ≢ n → HasNumber w m → IsCovered g w q m

abbrev pub CoversWorld : CodeRun → World (Local ℕ) → ReadyQueue → Type 0
CoversWorld g Both q = Unit {0}
CoversWorld g (Listing w) q = Covers g w q

abbrev pub CoversWorldBut : CodeRun → World (Local ℕ) → ReadyQueue → ℕ → Type 0
CoversWorldBut g Both q n = Unit {0}
CoversWorldBut g (Listing w) q n = CoversBut g w q n

-- a leg of this revision came out so, and all but it are covered
pub record IsKnown (g : CodeRun) (w : Entries (Local ℕ)) (n : ℕ) (a : LegAnswer) (v : rust.World) (q : ReadyQueue)
    : Type 0 where
  pub verified : IsVerified g
  pub reached : IsReached g (Listing w)
  pub answers : LegAnswers g (Listing w) n a v
  pub but : CoversBut g w q n

-- all of the world after the leg are covered, or of this one where there was none
abbrev pub CoversAfter : CodeRun → Entries (Local ℕ) → ℕ → LegAnswer → ReadyQueue → Type 0
CoversAfter g w n (answer.Waits on) q = Covers g w q
CoversAfter g w n answer.NoSuch q = Covers g w q
CoversAfter g w n answer.Over q = Covers g w q
CoversAfter g w n _ q =
    (u : World (Local ℕ)) → numbers.leg (numbered g) (Listing w) n ≡ Some u → CoversWorld g u q

-- where there was no leg, nothing was entered
abbrev pub IsStill : LegAnswer → ReadyQueue → ReadyQueue → Type 0
IsStill (answer.Waits on) q q' = q'.ready ≡ q.ready
IsStill answer.NoSuch q q' = q'.ready ≡ q.ready
IsStill answer.Over q q' = q'.ready ≡ q.ready
IsStill _ q q' = Unit {0}
