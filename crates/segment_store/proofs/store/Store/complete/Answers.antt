-- Answers of Store::complete: a location without a value gets that of the words, and one that has a value keeps it.
use Rattle.std.proofs.Common.{arith, ◌≡◌, ◌≢◌, ◌<◌, ◌≤◌, ℕ, ◌+◌, List, slice_index, sym, ap, ◌∙◌}
use Rattle.std.proofs.Common.{subst, None, Some, Option, IfSome, vec_len}
use Rattle.std.proofs.lemmas.List.{get_or_read}
use Rattle.std.specs.declared.vec.Vec.{Vec}
use Rattle.std.specs.declared.alloc.Global.{Global}
use mathlib.Core.Logic.{dite}
use native.Mathlib.Decide.{ℕ_discrete}
use Rattle.version_map.specs.declared.delta.Delta.{Delta}
use Rattle.version_map.specs.Deltas.{at, locations}
use Rattle.version_map.specs.Overlay.{word_or}
use Rattle.segment_store.specs.Own.{IsComplete}
use Rattle.segment_store.proofs.store.Store.complete.Goals.{in-Some-get, in-None}
use Rattle.segment_store.proofs.store.Store.complete.Goals as goal

-- the first n locations have a value
abbrev Completed : Delta → List ℕ → ℕ → Delta → Type 0
Completed d xs n new = (locations new ≡ locations d)
    × ((k : ℕ) → k < n → at new k ≡ Some (word_or (slice_index xs k) (at d k)))
    × ((k : ℕ) → n ≤ k → at new k ≡ at d k)

value_of : (d : Delta) (xs : List ℕ) (l : ℕ) (o : Option ℕ) → at d l ≡ o
    → Some (word_or (slice_index xs l) o) ≡ Some (word_or (slice_index xs l) (at d l))
value_of d xs l o e = ap (λ (p : Option ℕ). Some (word_or (slice_index xs l) p)) (sym e)

has_some : (d old : Delta) (xs : List ℕ) (l w : ℕ) → Completed d xs l old → at old l ≡ Some w
    → Completed d xs (l + 1) old
has_some d old xs l w i some = (
  i.0,
  λ k lt. dite (ℕ_discrete k l)
      (λ is. subst (λ (m : ℕ). at old m ≡ Some (word_or (slice_index xs m) (at d m))) (sym is)
      (some ∙ value_of d xs l (Some w) (sym (i.2 l (omega arith)) ∙ some)))
      (λ ne. i.1 k (omega arith)),
  λ k le. i.2 k (omega arith),
)

has_none : (d old new : Delta) (xs : List ℕ) (l : ℕ) → Completed d xs l old → at old l ≡ None
    → locations new ≡ locations old → at new l ≡ Some (slice_index xs l)
    → ((k : ℕ) → k ≢ l → at new k ≡ at old k) → Completed d xs (l + 1) new
has_none d old new xs l i none size here others = (
  size ∙ i.0,
  λ k lt. dite (ℕ_discrete k l)
      (λ is. subst (λ (m : ℕ). at new m ≡ Some (word_or (slice_index xs m) (at d m))) (sym is)
      (here ∙ value_of d xs l None (sym (i.2 l (omega arith)) ∙ none)))
      (λ ne. others k ne ∙ i.1 k (omega arith)),
  λ k le. others k (λ is. omega arith) ∙ i.2 k (omega arith),
)

in_words : {l end d n len k : ℕ} → l < end → end ≡ d → d ≡ n → len ≡ n → len ≡ k → l < k
in_words {l} {end} {d} {n} {len} {k} lt p q r e = omega arith

all_in : (l : ℕ) {len n d end now : ℕ} → l < len → len ≡ n → d ≡ n → end ≡ d → end ≤ now → l < now
all_in l {len} {n} {d} {end} {now} lt p q r e = omega arith

in_range : (l end n m : ℕ) → l < end → end ≡ n → m ≡ n → l < m
in_range l end n m lt e f = omega arith

pub get-requires : goal.get-requires
get-requires c = in_range _ _ _ _ c.loop-l-test.true c.locations-l-end.ensures c.loop-l.invariant.0

pub set-requires : goal.set-requires
set-requires c = in_range _ _ _ _ c.loop-l-test.true c.locations-l-end.ensures c.loop-l.invariant.0

pub loop-l-preserved : goal.loop-l-preserved
loop-l-preserved c = let i = c.loop-l.invariant in let d = c.args.delta.now in
    let xs = c.in-Some.words.items in
    let many = subst (λ (o : Option (Vec ℕ Global)). IfSome o (λ ws. vec_len ws ≡ vec_len c.args.self.now.initial))
    c.in-Some.is c.requires.1 in
    elim c.match-get.branch [
      | in-Some-get w ↦ subst (Completed d xs (c.loop-l.l + 1)) (sym w.delta-is)
          (has_some d c.loop-l.delta xs c.loop-l.l _ i (sym c.get.ensures ∙ w.in-Some-get.is))
      | in-None w ↦ subst (Completed d xs (c.loop-l.l + 1)) (sym w.delta-is)
          (has_none d c.loop-l.delta w.set.new.self xs c.loop-l.l i
          (sym c.get.ensures ∙ w.in-None.is) w.set.ensures.size (w.set.ensures.here
          ∙ ap Some (get_or_read xs _ _ (in_words c.loop-l-test.true
          c.locations-l-end.ensures c.requires.0 many c.in-Some.words.ok.0) w.index.ensures 0))
          w.set.ensures.others)
    ]

pub returns-after-loop-l-clause-values : goal.returns-after-loop-l-clause-values
returns-after-loop-l-clause-values c =
    let many = subst (λ (o : Option (Vec ℕ Global)). IfSome o (λ ws. vec_len ws ≡ vec_len c.args.self.now.initial))
    c.in-Some.is c.requires.1 in
    subst (λ (o : Option (Vec ℕ Global)). IsComplete o c.args.delta.now c.loop-l.delta) (sym c.in-Some.is) (
      tt,
      λ l lt. c.loop-l.invariant.1 l
          (all_in l lt many c.requires.0 c.locations-l-end.ensures c.loop-l-test.false),
    )
