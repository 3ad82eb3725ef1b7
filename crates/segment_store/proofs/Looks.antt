-- What the looks of a claim have found.
use Rattle.std.proofs.Common.{◌≡◌, ℕ, ◌+◌, ◌*◌, ◌%◌, ◌<◌, ◌≤◌, List, [], ◌∷◌, ◌++◌, sym, ap, subst, ◌∙◌, arith, inl, inr}
use mathlib.Core.Logic.{dite}
use native.Mathlib.Decide.{dec_le}
use Rattle.segment_store.specs.Places.{Place, view}
use Rattle.atomic_table.proofs.Lists.{one_turn}
use Rattle.std.proofs.lemmas.List.{append_assoc}
use Rattle.std.proofs.Math.Nat.{zero-mod, mod-lt, mul-pos, mul-mod_left}
use Rattle.std.proofs.Math.Nat.{mul-le-mul_right}
use Rattle.segment_store.specs.Entry.{Look}
use Rattle.segment_store.specs.declared.board.SegmentView.{SegmentView}
use Rattle.segment_store.specs.Store.{IsSegment, notes, claims}
use Rattle.segment_store.specs.Same.{Becomes}
use Rattle.segment_store.specs.Base.{logged, Found, FoundBetween, FoundAll}
use Rattle.segment_store.proofs.Sums.{one_segment}

-- one more count was found
pub log_more : (s t u : Place) (c n : ℕ) → Becomes s t (logged (view s) (view t).log)
    → Becomes t u (notes (view t) c n)
    → Becomes s u (logged (view s) (view u).log)
    × ((view u).log ≡ record { segment = c; count = n } ∷ (view t).log)
log_more s t u c n a b = let log : (view u).log ≡ record { segment = c; count = n }
    ∷ (view t).log = ap (λ (x : SegmentView). x.log) b.2 in (
      (
        b.0 ∙ a.0,
        b.1 ∙ a.1,
        b.2 ∙ (ap (λ (x : SegmentView). notes x c n) a.2
            ∙ ap (λ (ls : List Look). logged (view s) ls) (sym log)),
      ),
      log,
    )

pub log_claims : (s t u : Place) (c : ℕ) → Becomes s t (logged (view s) (view t).log)
    → Becomes t u (claims (view t) c) → Becomes s u (claims (logged (view s) (view u).log) c)
log_claims s t u c a b = let log : (view u).log ≡ (view t).log =
    ap (λ (x : SegmentView). x.log) b.2 in (
      b.0 ∙ a.0,
      b.1 ∙ a.1,
      b.2 ∙ (ap (λ (x : SegmentView). claims x c) a.2
          ∙ ap (λ (ls : List Look). claims (logged (view s) ls) c) (sym log)),
    )

-- no segment is below the first
pub none_low : (stride c : ℕ) → 0 < c → c % stride ≡ 0 → c < stride → ⊥
none_low stride c pos e lt = let z : 0 ≡ c = one_turn 0 c stride (omega arith) (omega arith)
    (zero-mod stride ∙ sym e) in omega arith

first_le : (stride c : ℕ) → 0 < c → c % stride ≡ 0 → stride ≤ c
first_le stride c pos e = dite (dec_le stride c) (λ le. le)
    (λ gt. absurd (none_low stride c pos e (omega arith)))

-- a store of no segments has none
pub none_in : (words stride many c : ℕ) → many ≡ 0 → words ≡ (many + 1) * stride
    → IsSegment words stride c → ⊥
none_in words stride many c none is b =
    let one : words ≡ (0 + 1) * stride = subst (λ (n : ℕ). words ≡ (n + 1) * stride) none is in
    let lt = b.2 in none_low stride c b.0 b.1 (omega arith)

pub found_next : (words stride from segment n : ℕ) (seen : List Look) → segment % stride ≡ 0
    → 0 < n
    → ((c : ℕ) → IsSegment words stride c → from ≤ c → c < segment → Found c seen)
    → (c : ℕ) → IsSegment words stride c → from ≤ c → c < segment + stride
    → Found c (record { segment = segment; count = n } ∷ seen)
found_next words stride from segment n seen even some old c b low lt = dite (dec_le segment c)
    (λ le. inl (
      sym (one_segment c segment c stride b.1 even (omega arith) (omega arith) le lt),
      some,
    ))
    (λ gt. inr (old c b low (omega arith)))

found_behind : (c : ℕ) (xs ys : List Look) → Found c ys → Found c (xs ++ ys)
found_behind c [] ys f = f
found_behind c (x ∷ xs) ys f = inr (found_behind c xs ys f)

found_before : (c : ℕ) (xs ys : List Look) → Found c xs → Found c (xs ++ ys)
found_before c [] ys f = elim f [ ]
found_before c (x ∷ xs) ys (inl f) = inl f
found_before c (x ∷ xs) ys (inr f) = inr (found_before c xs ys f)

-- what was found from a place to the end, and then from the first segment to that place, is all
pub found_all : (words stride begin : ℕ) (old mid new : List Look)
    → FoundBetween words stride begin words old mid → FoundBetween words stride stride begin mid new
    → FoundAll words stride old new
found_all words stride begin old mid new late early = (
  early.0 ++ late.0,
  early.1 ∙ (ap (λ (ls : List Look). early.0 ++ ls) late.1 ∙ sym (append_assoc early.0 late.0 old)),
  λ c b. dite (dec_le begin c) (λ le. found_behind c early.0 late.0 (late.2 c b le b.2))
      (λ gt. found_before c early.0 late.0
      (early.2 c b (first_le stride c b.0 b.1) (omega arith))),
)

-- looks, and then more of them
pub log_then : (s t u : Place) → Becomes s t (logged (view s) (view t).log)
    → Becomes t u (logged (view t) (view u).log) → Becomes s u (logged (view s) (view u).log)
log_then s t u a b = (
  b.0 ∙ a.0,
  b.1 ∙ a.1,
  b.2 ∙ ap (λ (x : SegmentView). logged x (view u).log) a.2,
)

-- looks, and then more of them and a claim
pub log_then_claims : (s t u : Place) (c : ℕ)
    → Becomes s t (logged (view s) (view t).log)
    → Becomes t u (claims (logged (view t) (view u).log) c)
    → Becomes s u (claims (logged (view s) (view u).log) c)
log_then_claims s t u c a b = (
  b.0 ∙ a.0,
  b.1 ∙ a.1,
  b.2 ∙ ap (λ (x : SegmentView). claims (logged x (view u).log) c) a.2,
)

-- the first word of a segment of so many
pub begin_fits : (x many stride words : ℕ) → 0 < many → 0 < stride → words ≡ (many + 1) * stride
    → (0 < (x % many + 1) * stride) × ((x % many + 1) * stride % stride ≡ 0)
    × ((x % many + 1) * stride ≤ words)
begin_fits x many stride words some wide is = let less = mod-lt x some in (
  mul-pos {m = x % many + 1} (omega arith) wide,
  mul-mod_left (x % many + 1) stride,
  subst (λ (n : ℕ). (x % many + 1) * stride ≤ n) (sym is)
      (mul-le-mul_right {m = x % many + 1} {n = many + 1} stride (omega arith)),
)

-- there is room for a whole segment
pub room_after : (words stride segment : ℕ) → segment % stride ≡ 0 → words % stride ≡ 0
    → segment < words → segment + stride ≤ words
room_after words stride segment hb hw lt = dite (dec_le (segment + stride) words) (λ y. y)
    (λ n. let q : segment ≡ words = one_turn segment words stride (omega arith) (omega arith)
    (hb ∙ sym hw) in absurd (omega arith))
