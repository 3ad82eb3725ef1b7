-- The first record, and records that are let go at the close.
use Rattle.std.proofs.Common.{◌≡◌, ℕ, suc, ◌+◌, List, [], ◌∷◌, length, refl, sym, ap, arith, Option, Some, None}
use Rattle.revision_machine.proofs.Numbers.{none_some}
use Rattle.hub_core.specs.declared.status.Status.{Status}
use Rattle.hub_core.specs.declared.run_queue.RunQueue.{RunQueue}
use Rattle.hub_core.specs.Chains.{Adds, IsAsLong, HasOne}
use Rattle.hub_core.specs.Recorded.{put_record, IsLonger}
use Rattle.hub_core.specs.Tally.{record_at}
use Rattle.hub_core.specs.Ordered.{kept_in}
use Rattle.hub_core.proofs.Ways.{first_one}

module _ {R A E : Type 0} where
  pub put_first : (rs : List (Option (Status R A E))) (x : Status R A E) → length rs ≡ 1
      → put_record rs 0 x ≡ Some x ∷ []
  put_first [] x one = absurd (omega arith)
  put_first (y ∷ []) x one = refl
  put_first (y ∷ z ∷ rs) x one = absurd (omega arith)

  pub first_queue : (q q' q'' : RunQueue) (before rs : List (Option (Status R A E)))
      → (q.links.items ≡ []) × (q.waiters.items ≡ []) × (q.ready ≡ None) × (q.unfinished ≡ 0)
      → IsLonger q q' before rs → length rs ≡ 1
      → Adds q' q'' 0 × (q''.unfinished ≡ q'.unfinished + 1) × IsAsLong q' q'' → HasOne q''
  first_queue q q' q'' before rs none longer one adds =
      let links = longer.links in
      let reach = longer.reach in
      let begun = longer.unfinished in
      let a = adds.1 in
      let b = adds.2.0 in
      let c = adds.2.1 in
      let e = ap length none.0 in
      first_one q q'' 0 none refl (
        (λ ready waits h no. adds.0 ready waits (longer.lists ready waits h) no),
        omega arith,
        omega arith,
        omega arith,
      )

  pub kept_none : (rs : List (Option (Status R A E))) → ((j : ℕ) → record_at rs j ≡ None) → kept_in rs ≡ []
  kept_none [] none = refl
  kept_none (None ∷ rs) none = kept_none rs (λ j. none (suc j))
  kept_none (Some x ∷ rs) none = none_some (sym (none 0))
