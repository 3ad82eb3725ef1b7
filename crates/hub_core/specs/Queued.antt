-- How a run queue stands to the statuses of the revisions.
--   waits_for     a joiner that waits for this revision, which has not ended
--   unfinished    how many have not ended
--   Queued        what is ready stands once in the list of what is ready, and what waits once in that of its joinee
use Rattle.std.specs.Prelude.{◌≡◌, ℕ, ◌≤◌, Bool, false, List, length, cond, ◌==◌, Option, Some, None}
use Rattle.revision_machine.specs.Numbered.{at_number}
use Rattle.hub_core.specs.declared.status.Status.{Status}
use Rattle.hub_core.specs.declared.status.Status.TheVariants.{Ready, Out, Waiting, Over, Gone}
use Rattle.hub_core.specs.HubMachine.{HubMachine}
use Rattle.hub_core.specs.declared.run_queue.RunQueue.{RunQueue}
use Rattle.hub_core.specs.Chains.{HasLists}
use Rattle.hub_core.specs.Found.{ended_here, is_ready}
use Rattle.hub_core.specs.Counts.{total, times, flag}

module _ {R A E : Type 0} where
  -- 1 of one that has not ended
  abbrev pub is_open : Status R A E → ℕ
  is_open (Ready r) = 1
  is_open Out = 1
  is_open (Waiting a) = 1
  is_open (Over e) = 0
  is_open Gone = 0

  abbrev pub unfinished : List (Status R A E) → ℕ
  unfinished = total is_open

module _ {L R A E : Type 0} (d : HubMachine L R A E) where
  abbrev pub waits_for : List (Status R A E) → ℕ → Option (Status R A E) → Bool
  waits_for slots m None = false
  waits_for slots m (Some (Ready r)) = false
  waits_for slots m (Some Out) = false
  waits_for slots m (Some (Waiting a)) =
      cond (ended_here (at_number slots m)) false (d.on a == m)
  waits_for slots m (Some (Over e)) = false
  waits_for slots m (Some Gone) = false

  pub record Queued (slots : List (Status R A E)) (q : RunQueue) : Type 0 where
    pub ready : List ℕ
    pub waits : ℕ → List ℕ
    pub lists : HasLists q ready waits
    pub ready_are : (n : ℕ) → times n ready ≡ flag (is_ready d slots (at_number slots n))
    pub waits_are :
        (m n : ℕ) → times n (waits m) ≡ flag (waits_for slots m (at_number slots n))
    pub links : length q.links.items ≡ length slots
    pub reach : length slots ≤ length q.waiters.items
    pub count : q.unfinished ≡ unfinished slots
