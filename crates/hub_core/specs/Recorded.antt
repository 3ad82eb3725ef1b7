-- How records change.
--   put_record     a place gets a record
--   IsLonger       there are more places, all without records, and the run queue reaches as far
--   IsReadyFirst   the first revision alone, which is ready
use Rattle.std.specs.Prelude.{◌≡◌, ◌≤◌, ℕ, zero, suc, List, [], ◌∷◌, length, Option, Some}
use Rattle.hub_core.specs.declared.status.Status.{Status}
use Rattle.hub_core.specs.declared.status.Status.TheVariants.{Ready}
use Rattle.hub_core.specs.declared.run_queue.RunQueue.{RunQueue}
use Rattle.hub_core.specs.Chains.{HasLists}
use Rattle.hub_core.specs.Tally.{record_at}

module _ {R A E : Type 0} where
  abbrev pub put_record : List (Option (Status R A E)) → ℕ → Status R A E → List (Option (Status R A E))
  put_record [] n x = []
  put_record (y ∷ ys) zero x = Some x ∷ ys
  put_record (y ∷ ys) (suc n) x = y ∷ put_record ys n x

  abbrev pub IsReadyFirst : List (Option (Status R A E)) → Type 0
  IsReadyFirst rs = (r : R) × (rs ≡ Some (Ready r) ∷ [])

  pub record IsLonger (q q' : RunQueue) (rs rs' : List (Option (Status R A E))) : Type 0 where
    pub same : (j : ℕ) → record_at rs' j ≡ record_at rs j
    pub long : length rs ≤ length rs'
    pub lists :
        (ready : List ℕ) (waits : ℕ → List ℕ) → HasLists q ready waits → HasLists q' ready waits
    pub unfinished : q'.unfinished ≡ q.unfinished
    pub links : length q'.links.items ≡ length rs'
    pub reach : length rs' ≤ length q'.waiters.items
