-- Answers of words_under: the delta's value at a location is the word, and without one it is the word beneath.
use Rattle.std.proofs.Common.{arith, ◌≡◌, ◌<◌, ◌≤◌, ℕ, ◌+◌, ◌++◌, List, [], ◌∷◌, length, slice_index}
use Rattle.std.proofs.Common.{sym, ap, ◌∙◌, subst, None, Some}
use Rattle.std.proofs.Math.Seq.{get_or-append_seam}
use Rattle.std.proofs.lemmas.List.{get_or_append_left}
use mathlib.Core.Logic.{dite}
use native.Mathlib.Decide.{ℕ_discrete}
use Rattle.version_map.specs.declared.delta.Delta.{Delta}
use Rattle.version_map.specs.Deltas.{at}
use Rattle.version_map.specs.Overlay.{under, word_or, Agree}
use Rattle.segment_store.proofs.store.copies.words_under.Goals.{in-Some, in-None}
use Rattle.segment_store.proofs.store.copies.words_under.Goals as goal

word_some : (d : Delta) (xs : List ℕ) (l w : ℕ) → at d l ≡ Some w → w ≡ under d (slice_index xs) l
word_some d xs l w e = sym (ap (word_or (slice_index xs l)) e)

word_none : (d : Delta) (xs : List ℕ) (l : ℕ) → at d l ≡ None
    → slice_index xs l ≡ under d (slice_index xs) l
word_none d xs l e = sym (ap (word_or (slice_index xs l)) e)

pushed : (f : ℕ → ℕ) (all new : List ℕ) (l w : ℕ) → length all ≡ l → Agree l (slice_index all) f
    → new ≡ all ++ (w ∷ []) → w ≡ f l → Agree (l + 1) (slice_index new) f
pushed f all new l w many i is here k lt = ap (λ (xs : List ℕ). slice_index xs k) is
    ∙ dite (ℕ_discrete k l)
    (λ same. (ap (slice_index (all ++ (w ∷ []))) (same ∙ sym many)
    ∙ (get_or-append_seam all w [] 0 ∙ here)) ∙ ap f (sym same))
    (λ other. get_or_append_left all (w ∷ []) 0 k (omega arith) ∙ i k (omega arith))

pub returns : goal.returns
returns c = let i = c.loop-l.invariant in let e = c.locations-l-end.ensures in
    let a = c.loop-l.auto.l-end in let t = c.loop-l-test.false in
    let same : c.loop-l.l ≡ c.locations-l-end.result = omega arith in
    (i.0 ∙ (same ∙ e), λ l lt. i.2 l (subst (λ (n : ℕ). l < n) (sym (same ∙ e)) lt))

pub get-requires : goal.get-requires
get-requires c = subst (λ (n : ℕ). c.loop-l.l < n) c.locations-l-end.ensures c.loop-l-test.true

pub loop-l-preserved : goal.loop-l-preserved
loop-l-preserved c = let i = c.loop-l.invariant in let d = c.args.delta.now in
    let xs = c.args.words.now in let all = c.loop-l.all in
    let here : c.match-get.word ≡ under d (slice_index xs) c.loop-l.l = elim c.match-get.branch [
      | in-Some w ↦ w.word-is ∙ word_some d xs c.loop-l.l _ (sym c.get.ensures ∙ w.in-Some.is)
      | in-None w ↦ w.word-is ∙ word_none d xs c.loop-l.l (sym c.get.ensures ∙ w.in-None.is)
    ] in (
      c.push_reserved.ensures.len ∙ ap (λ (n : ℕ). n + 1) i.0,
      subst (λ (k : ℕ). length xs ≤ k) (sym c.push_reserved.ensures.capacity) i.1,
      pushed (under d (slice_index xs)) all.items c.push_reserved.new.self.items c.loop-l.l
          c.match-get.word (sym all.ok.0 ∙ i.0) i.2 c.push_reserved.ensures.items here,
    )
