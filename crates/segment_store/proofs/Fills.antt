-- A segment is laid down word by word.
use Rattle.std.proofs.Common.{◌≡◌, ◌≢◌, ℕ, ◌+◌, ◌-◌, ◌*◌, ◌/◌, ◌%◌, ◌<◌, ◌≤◌, Bool, cond, List, ◌∷◌, slice_index, sym}
use Rattle.std.proofs.Common.{ap, refl, ◌∙◌, subst, arith, eq-eqb, ne_eqb, Option, None, Some, []}
use mathlib.Core.Option as m
use mathlib.Core.Logic.{dite}
use native.Mathlib.Decide.{ℕ_discrete}
use Rattle.segment_store.specs.Places.{Place, view}
use Rattle.version_map.specs.declared.delta.Delta.{Delta}
use Rattle.std.specs.Int.{bit_at}
use Rattle.std.proofs.lemmas.Nat.Bits.{bit_at-zero}
use Rattle.version_map.specs.Deltas.{at, mask_of}
use Rattle.version_map.proofs.Bits.{chosen_zero}
use Rattle.segment_store.specs.Entry.{Put}
use Rattle.segment_store.specs.declared.board.SegmentView.{SegmentView}
use Rattle.segment_store.specs.Store.{look, puts}
use Rattle.segment_store.specs.Same.{Becomes}
use Rattle.segment_store.specs.Base.{filled}
use Rattle.segment_store.specs.Filling.{Filling}

pub look_here : (ps : List Put) (i j w : ℕ) → i ≡ j
    → look (record { at = i; word = w } ∷ ps) j ≡ m.some w
look_here ps i j w e = ap (λ (b : Bool). cond b (m.some w) (look ps j)) (eq-eqb i j e)

pub look_else : (ps : List Put) (i j w : ℕ) → i ≢ j
    → look (record { at = i; word = w } ∷ ps) j ≡ look ps j
look_else ps i j w ne = ap (λ (b : Bool). cond b (m.some w) (look ps j)) (ne_eqb i j ne)

pub none_some : {A : Type 0} (w : A) (o : Option A) → o ≡ None → o ≡ Some w → ⊥
none_some {A} w o p q = subst is_none (sym p ∙ q) tt where
  is_none : Option A → Type 0
  is_none None = Unit {0}
  is_none (Some x) = ⊥

module _ (segment parent masks : ℕ) (d : Delta) where
  -- the parent alone
  pub filling_starts : (made : List Put) → made ≡ []
      → Filling segment parent masks d 0 0 (record { at = segment + 1; word = parent } ∷ made)
  filling_starts made none = record {
    parent_is = look_here made (segment + 1) (segment + 1) parent refl;
    mask_is = λ j lt. absurd (omega arith);
    value_is = λ j w lt e. absurd (omega arith);
    none_is = λ j z. look_else made (segment + 1) (segment + (2 + masks + j)) parent (λ q. omega arith)
        ∙ ap (λ (ps : List Put). look ps (segment + (2 + masks + j))) none;
  }

  -- a mask word more
  pub filling_mask : (k : ℕ) (made new : List Put) → k < masks → Filling segment parent masks d k 0 made
      → look new (segment + (2 + k)) ≡ m.some (slice_index (mask_of d) k)
      → ((j : ℕ) → j ≢ segment + (2 + k) → look new j ≡ look made j)
      → Filling segment parent masks d (k + 1) 0 new
  filling_mask k made new low f here others = record {
    parent_is = others (segment + 1) (λ q. omega arith) ∙ f.parent_is;
    mask_is = λ j lt. dite (ℕ_discrete j k)
        (λ is. ap (λ (n : ℕ). look new (segment + (2 + n))) is
        ∙ (here ∙ ap (λ (n : ℕ). m.some (slice_index (mask_of d) n)) (sym is)))
        (λ ne. others (segment + (2 + j)) (λ q. ne (omega arith)) ∙ f.mask_is j (omega arith));
    value_is = λ j w lt e. absurd (omega arith);
    none_is = λ j z. others (segment + (2 + masks + j)) (λ q. omega arith) ∙ f.none_is j z;
  }

  pub filling_value : (l w : ℕ) (made : List Put) → Filling segment parent masks d masks l made
      → at d l ≡ Some w
      → Filling segment parent masks d masks (l + 1)
      (record { at = segment + (2 + masks + l); word = w } ∷ made)
  filling_value l w made f is_some = record {
    parent_is = look_else made (segment + (2 + masks + l)) (segment + 1) w (λ q. omega arith)
        ∙ f.parent_is;
    mask_is = λ j lt. look_else made (segment + (2 + masks + l)) (segment + (2 + j)) w
        (λ q. omega arith) ∙ f.mask_is j lt;
    value_is = λ j x lt e. dite (ℕ_discrete j l)
        (λ is. look_here made (segment + (2 + masks + l)) (segment + (2 + masks + j)) w
        (omega arith) ∙ ap m.some (same w x (sym is_some ∙ (ap (at d) (sym is) ∙ e))))
        (λ ne. look_else made (segment + (2 + masks + l)) (segment + (2 + masks + j)) w
        (λ q. ne (omega arith)) ∙ f.value_is j x (omega arith) e);
    none_is = λ j z. dite (ℕ_discrete j l)
        (λ is. absurd (none_some w (at d j) (z (omega arith)) (ap (at d) is ∙ is_some)))
        (λ ne. look_else made (segment + (2 + masks + l)) (segment + (2 + masks + j)) w
        (λ q. ne (omega arith)) ∙ f.none_is j (λ lt. z (omega arith)));
  } where
    same : (a b : ℕ) → Some a ≡ Some b → a ≡ b
    same a b e = ap (λ (o : Option ℕ). or_zero o) e where
      or_zero : Option ℕ → ℕ
      or_zero None = 0
      or_zero (Some x) = x

  pub filling_skips : (l : ℕ) (made : List Put) → Filling segment parent masks d masks l made
      → at d l ≡ None → Filling segment parent masks d masks (l + 1) made
  filling_skips l made f is_none = record {
    parent_is = f.parent_is;
    mask_is = f.mask_is;
    value_is = λ j x lt e. dite (ℕ_discrete j l)
        (λ is. absurd (none_some x (at d l) is_none (ap (at d) (sym is) ∙ e)))
        (λ ne. f.value_is j x (omega arith) e);
    none_is = λ j z. f.none_is j (λ lt. z (omega arith));
  }

  -- as far as n, where no location between has a value
  pub filling_jump : (l n : ℕ) (made : List Put) → Filling segment parent masks d masks l made
      → ((j : ℕ) → l ≤ j → j < n → at d j ≡ None) → l ≤ n → Filling segment parent masks d masks n made
  filling_jump l n made f none le = record {
    parent_is = f.parent_is;
    mask_is = f.mask_is;
    value_is = λ j x lt e. dite (ℕ_discrete (l - j) 0)
        (λ q. absurd (none_some x (at d j) (none j (omega arith) lt) e))
        (λ ne. f.value_is j x (omega arith) e);
    none_is = λ j z. f.none_is j (λ lt. z (omega arith));
  }

  pub filling_at : (l i w : ℕ) (made : List Put) → i ≡ segment + (2 + masks + l)
      → Filling segment parent masks d masks l made → at d l ≡ Some w
      → Filling segment parent masks d masks (l + 1) (record { at = i; word = w } ∷ made)
  filling_at l i w made is f is_some =
      subst (λ (z : ℕ). Filling segment parent masks d masks (l + 1) (record { at = z; word = w } ∷ made)) (sym is)
      (filling_value l w made f is_some)

pub empty_row : (d : Delta) (row l : ℕ) → slice_index (mask_of d) row ≡ 0 → 64 * row ≤ l → l < 64 * row + 64
    → at d l ≡ None
empty_row d row l zero lo hi =
    let same : l / 64 ≡ row = omega (arith, lo, hi) in
    chosen_zero _ _
    (ap (λ (z : ℕ). bit_at (slice_index (mask_of d) z) (l % 64)) same
    ∙ (ap (λ (z : ℕ). bit_at z (l % 64)) zero ∙ bit_at-zero (l % 64)))

-- a part more
pub fills_more : (s t u : Place) → Becomes s t (filled (view s) (view t).made)
    → Becomes t u (filled (view t) (view u).made) → Becomes s u (filled (view s) (view u).made)
fills_more s t u a b =
    (b.0 ∙ a.0, b.1 ∙ a.1, b.2 ∙ ap (λ (x : SegmentView). filled x (view u).made) a.2)

-- one more word
pub puts_more : (s t u : Place) (i w : ℕ) → Becomes s t (filled (view s) (view t).made)
    → Becomes t u (puts (view t) i w)
    → Becomes s u (filled (view s) (view u).made)
    × (record { at = i; word = w } ∷ (view t).made ≡ (view u).made)
puts_more s t u i w a b = let made : (view u).made ≡ record { at = i; word = w } ∷ (view t).made =
    ap (λ (x : SegmentView). x.made) b.2 in (
      (
        b.0 ∙ a.0,
        b.1 ∙ a.1,
        b.2 ∙ (ap (λ (x : SegmentView). puts x i w) a.2
            ∙ ap (λ (ps : List Put). filled (view s) ps) (sym made)),
      ),
      sym made,
    )

-- one word, as looks at the words that were put tell it
pub put_look : (s u : Place) (i w : ℕ) → Becomes s u (puts (view s) i w)
    → Becomes s u (filled (view s) (view u).made) × (look (view u).made i ≡ m.some w)
    × ((j : ℕ) → j ≢ i → look (view u).made j ≡ look (view s).made j)
put_look s u i w b = let p = puts_more s s u i w (refl, refl, refl) b in (
  p.0,
  subst (λ (ps : List Put). look ps i ≡ m.some w) p.1 (look_here (view s).made i i w refl),
  λ j ne. subst (λ (ps : List Put). look ps j ≡ look (view s).made j) p.1
      (look_else (view s).made i j w (λ q. ne (sym q))),
)

-- another one in its place
pub put_again : (s t u : Place) (i w x : ℕ) → Becomes s t (puts (view s) i w)
    → Becomes t u (puts (view t) i x)
    → Becomes s u (filled (view s) (view u).made) × (look (view u).made i ≡ m.some x)
    × ((j : ℕ) → j ≢ i → look (view u).made j ≡ look (view s).made j)
put_again s t u i w x a b = let p = put_look s t i w a in let q = put_look t u i x b in
    (fills_more s t u p.0 q.0, q.1, λ j ne. q.2 j ne ∙ p.2 j ne)
