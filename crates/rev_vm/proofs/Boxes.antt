-- What is known of a revision is known of an equal one, as of the one that lies in its box.
--   same_at, same_some, same_fork, same_join, same_claimed   for which states it stands
--   same_ready, same_waiting                                 what lies on its stack
--   same_past, same_wrote, same_noted                        what it has done
--   same_room                                                room for what it has written
--   same_joining                                             a joiner with an equal memory
--   same_line                                                the trap in its line
use Rattle.std.proofs.Common.{◌≡◌, ℕ, Bool, List, Option, None, ap, subst}
use Rattle.std.specs.Prelude.{Vec}
use Rattle.std.specs.declared.alloc.Global.{Global}
use Rattle.rev_num.specs.declared.outcome.Cause.{Cause}
use Rattle.rev_code.specs.State.{State}
use Rattle.rev_code.specs.Words.{Word}
use Rattle.version_map.specs.declared.end.EndValue.{EndValue}
use Rattle.version_map.specs.declared.end.Finish.TheVariants as finish
use Rattle.version_map.specs.declared.end.Written.{Written}
use Rattle.version_map.specs.declared.snapshot.Snapshot.{Ghosts}
use Rattle.version_map.specs.Deltas.{at}
use Rattle.version_map.specs.Overlay.{under}
use Rattle.block_run.specs.declared.memory.Memory.{Memory}
use Rattle.block_run.specs.Remembering.{HasRoom}
use Rattle.code_machine.specs.Local.{CodeRun, End}
use Rattle.leg_run.specs.declared.revision.RunningRevision.{RunningRevision}
use Rattle.leg_run.specs.declared.revision.Run.{Run}
use Rattle.rev_vm.specs.Legs.{IsNoted}
use Rattle.rev_vm.specs.Meaning.{IsAt, IsAtFork, IsAtJoin, IsClaimed, IsPast, IsReady}
use Rattle.rev_vm.specs.Starts.{IsWaiting}
use Rattle.rev_vm.specs.Writes.{HasWritten}

module _ {P S : Type 0} {m : Ghosts P S} {v w : RunningRevision P S m} (same : v ≡ w) where
  pub same_at : (g : CodeRun) (c : State ℕ)
      → IsAt g v.run v.memory.delta (m.base v.memory.snapshot) v.memory.first.roots c
      → IsAt g w.run w.memory.delta (m.base w.memory.snapshot) w.memory.first.roots c
  same_at g c =
      subst (λ (r : RunningRevision P S m). IsAt g r.run r.memory.delta (m.base r.memory.snapshot) r.memory.first.roots
      c) same

  pub same_some : (g : CodeRun)
      → (c : State ℕ) × IsAt g v.run v.memory.delta (m.base v.memory.snapshot) v.memory.first.roots c
      → (c : State ℕ) × IsAt g w.run w.memory.delta (m.base w.memory.snapshot) w.memory.first.roots c
  same_some g h = (h.0, same_at g h.0 h.1)

  pub same_fork : (g : CodeRun) (block : ℕ) (c : State ℕ) (args : List (Word ℕ))
      → IsAtFork g v.run v.memory.delta (m.base v.memory.snapshot) v.memory.first.roots block c args
      → IsAtFork g w.run w.memory.delta (m.base w.memory.snapshot) w.memory.first.roots block c args
  same_fork g block c args =
      subst (λ (r : RunningRevision P S m).
      IsAtFork g r.run r.memory.delta (m.base r.memory.snapshot) r.memory.first.roots block c args)
      same

  pub same_join : (g : CodeRun) (try : Bool) (on : ℕ) (c : State ℕ)
      → IsAtJoin g v.run v.memory.delta (m.base v.memory.snapshot) v.memory.first.roots try on c
      → IsAtJoin g w.run w.memory.delta (m.base w.memory.snapshot) w.memory.first.roots try on c
  same_join g try on c =
      subst (λ (r : RunningRevision P S m).
      IsAtJoin g r.run r.memory.delta (m.base r.memory.snapshot) r.memory.first.roots try on c)
      same

  pub same_claimed :
      (g : CodeRun) (try : Bool) (on : ℕ) (e : EndValue) (c : State ℕ) (j : End ℕ)
      → IsClaimed g v.run v.memory.delta (m.base v.memory.snapshot) v.memory.first.roots try on e c j
      → IsClaimed g w.run w.memory.delta (m.base w.memory.snapshot) w.memory.first.roots try on e c j
  same_claimed g try on e c j =
      subst (λ (r : RunningRevision P S m).
      IsClaimed g r.run r.memory.delta (m.base r.memory.snapshot) r.memory.first.roots try on e c j)
      same

  pub same_ready : IsReady v.run → IsReady w.run
  same_ready = subst (λ (r : RunningRevision P S m). IsReady r.run) same

  pub same_waiting : IsWaiting v.run → IsWaiting w.run
  same_waiting = subst (λ (r : RunningRevision P S m). IsWaiting r.run) same

  pub same_past : (try : Bool) (r : Run) → IsPast try v.run r → IsPast try w.run r
  same_past try r = subst (λ (x : RunningRevision P S m). IsPast try x.run r) same

  pub same_wrote : (written : List Written) (values : List ℕ) (seen : ℕ → ℕ) (root : ℕ → Option ℕ)
      → HasWritten (m.size v.memory.snapshot) written values (under v.memory.delta (m.base v.memory.snapshot))
      (at v.memory.first.roots) seen root
      → HasWritten (m.size w.memory.snapshot) written values (under w.memory.delta (m.base w.memory.snapshot))
      (at w.memory.first.roots) seen root
  same_wrote written values seen root =
      subst (λ (r : RunningRevision P S m).
      HasWritten (m.size r.memory.snapshot) written values (under r.memory.delta (m.base r.memory.snapshot))
      (at r.memory.first.roots) seen root)
      same

  pub same_noted : (on : ℕ) (r : Run) → IsNoted on v.run r → IsNoted on w.run r
  same_noted on r = subst (λ (x : RunningRevision P S m). IsNoted on x.run r) same

  pub same_room : (list : Vec Written Global) → HasRoom list (at v.memory.first.roots) (m.size v.memory.snapshot)
      → HasRoom list (at w.memory.first.roots) (m.size w.memory.snapshot)
  same_room list =
      subst (λ (r : RunningRevision P S m). HasRoom list (at r.memory.first.roots) (m.size r.memory.snapshot)) same

  pub same_line : (e : Cause)
      → finish.Trapped (record { cause = e; line = v.run.registers.line; origin = None })
      ≡ finish.Trapped (record { cause = e; line = w.run.registers.line; origin = None })
  same_line e =
      ap (λ (r : RunningRevision P S m). finish.Trapped
      (record { cause = e; line = r.run.registers.line; origin = None }))
      same

module _ {P S : Type 0} {m : Ghosts P S} {v w : Memory P S m} (same : v ≡ w) where
  pub same_joining : (g : CodeRun) (run : Run) (try : Bool) (on : ℕ) (c : State ℕ)
      → IsAtJoin g run v.delta (m.base v.snapshot) v.first.roots try on c
      → IsAtJoin g run w.delta (m.base w.snapshot) w.first.roots try on c
  same_joining g run try on c =
      subst (λ (x : Memory P S m). IsAtJoin g run x.delta (m.base x.snapshot) x.first.roots try on c) same
