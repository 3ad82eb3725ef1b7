-- Answers of copy_of: a value goes into the copy at its location, and a location without one has none in the copy.
use Rattle.std.proofs.Common.{arith, ◌≡◌, ◌≢◌, ℕ, ◌+◌, ◌<◌, ◌≤◌, sym, ap, ◌∙◌, subst, None, Some}
use mathlib.Core.Logic.{dite}
use native.Mathlib.Decide.{ℕ_discrete}
use Rattle.version_map.specs.declared.delta.Delta.{Delta}
use Rattle.version_map.specs.Deltas.{at, locations}
use Rattle.segment_store.proofs.store.copies.copy_of.Goals.{in-Some, in-None}
use Rattle.segment_store.proofs.store.copies.copy_of.Goals as goal

-- the values of the first n locations are copied
abbrev Copied : Delta → ℕ → Delta → Type 0
Copied d n copy = (locations copy ≡ locations d) × ((k : ℕ) → k < n → at copy k ≡ at d k)
    × ((k : ℕ) → n ≤ k → k < locations d → at copy k ≡ None)

copies_none : (d copy : Delta) (l : ℕ) → Copied d l copy → l < locations d → at d l ≡ None
    → Copied d (l + 1) copy
copies_none d copy l i inside none = (
  i.0,
  λ k lt. dite (ℕ_discrete k l)
      (λ is. i.2 k (omega arith) (omega arith) ∙ (sym none ∙ ap (at d) (sym is)))
      (λ ne. i.1 k (omega arith)),
  λ k le lt. i.2 k (omega arith) lt,
)

copies_some : (d copy new : Delta) (l w : ℕ) → Copied d l copy → at d l ≡ Some w
    → locations new ≡ locations copy → at new l ≡ Some w
    → ((k : ℕ) → k ≢ l → at new k ≡ at copy k) → Copied d (l + 1) new
copies_some d copy new l w i some size here others = (
  size ∙ i.0,
  λ k lt. dite (ℕ_discrete k l)
      (λ is. ap (at new) is ∙ (here ∙ (sym some ∙ ap (at d) (sym is))))
      (λ ne. others k ne ∙ i.1 k (omega arith)),
  λ k le lt. others k (λ is. omega arith) ∙ i.2 k (omega arith) lt,
)

pub loop-l-preserved : goal.loop-l-preserved
loop-l-preserved c = let i = c.loop-l.invariant in let d = c.args.delta.now in
    elim c.match-get.branch [
      | in-Some w ↦ subst (Copied d (c.loop-l.l + 1)) (sym w.copy-is)
          (copies_some d c.loop-l.copy w.set.new.self c.loop-l.l w.in-Some.word i
          (sym c.get.ensures ∙ w.in-Some.is) w.set.ensures.size w.set.ensures.here
          w.set.ensures.others)
      | in-None w ↦ subst (Copied d (c.loop-l.l + 1)) (sym w.copy-is)
          (copies_none d c.loop-l.copy c.loop-l.l i (let lt = c.loop-l-test.true in
          let end = c.locations-l-end.ensures in omega arith)
          (sym c.get.ensures ∙ w.in-None.is))
    ]
