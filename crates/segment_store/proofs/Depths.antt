-- Ranks fall along a chain, so it has at most as many entries as there are words, and segments.
use Rattle.std.proofs.Common.{◌≡◌, ℕ, zero, suc, ◌+◌, ◌-◌, ◌*◌, ◌/◌, ◌<◌, ◌≤◌, List, [], ◌∷◌}
use Rattle.std.proofs.Common.{length, sym, ap, ◌∙◌, arith, mul-le-mul_right}
use mathlib.Core.Option.{some}
use Rattle.std.proofs.Math.Nat.{mod-add-div, mul_comm}
use mathlib.Core.Logic.{dite}
use native.Mathlib.Decide.{ℕ_discrete, dec_le}
use Rattle.atomic_table.specs.Table.{State}
use Rattle.segment_store.specs.Entry.{Entry}
use Rattle.segment_store.specs.declared.board.SegmentView.{SegmentView}
use Rattle.segment_store.specs.Store.{IsSegment, IsEntry, Chain, Kept}

-- 1 where a is below m
abbrev is_below : ℕ → ℕ → ℕ
is_below a m = 1 - (1 + a - m)

-- how many of the numbers under n have a rank below m
below : (ℕ → ℕ) → ℕ → ℕ → ℕ
below rank m zero = 0
below rank m (suc n) = below rank m n + is_below (rank n) m

below_all : (rank : ℕ → ℕ) (m n : ℕ) → below rank m n ≤ n
unfolding below
below_all rank m zero = omega arith
below_all rank m (suc n) = let r = below_all rank m n in omega arith

below_more : (rank : ℕ → ℕ) (m k n : ℕ) → m ≤ k → below rank m n ≤ below rank k n
unfolding below
below_more rank m k zero h = omega arith
below_more rank m k (suc n) h = let r = below_more rank m k n h in omega arith

-- one more, where f is below k and not below m
below_one : (rank : ℕ → ℕ) (m k n f : ℕ) → f < n → m ≤ rank f → rank f < k
    → 1 + below rank m n ≤ below rank k n
unfolding below
below_one rank m k zero f h lo hi = absurd (omega arith)
below_one rank m k (suc n) f h lo hi = dite (ℕ_discrete f n)
    (λ e. let is : rank f ≡ rank n = ap rank e in let r = below_more rank m k n (omega arith) in
    omega arith)
    (λ ne. let r = below_one rank m k n f (omega arith) lo hi in omega arith)

module _ (words stride : ℕ) (s : State (Unit {0}) SegmentView) (r : Kept words stride s) where
  under_head : (e : Entry) (es : List Entry)
      → Chain words stride (IsEntry words stride s.words r.ups) (e ∷ es)
      → length es ≤ below r.rank (r.rank e.seg) words
  under_head e [] ch = omega arith
  under_head e (f ∷ fs) ch = let rest = under_head f fs ch.2 in let pos = ch.2.0.0.0 in
      let in_range = ch.2.0.0.2 in
      let fall = (r.ranked e.seg f.seg (ch.0.1 ∙ ap some ch.1) pos).0 in
      let more = below_one r.rank (r.rank f.seg) (r.rank e.seg) words f.seg in_range (omega arith)
      fall in omega arith

  pub chain_fits : (es : List Entry) → Chain words stride (IsEntry words stride s.words r.ups) es
      → length es ≤ words
  chain_fits [] ch = omega arith
  chain_fits (e ∷ es) ch = let rest = under_head e es ch in let in_range = ch.0.0.2 in
      let more = below_one r.rank (r.rank e.seg) (1 + r.rank e.seg) words e.seg in_range
      (omega arith) (omega arith) in let all = below_all r.rank (1 + r.rank e.seg) words in
      omega arith

  pub chain_short : (es : List Entry) → Chain words stride (IsEntry words stride s.words r.ups) es
      → length es ≤ 1099511627776
  chain_short es ch = let a = chain_fits es ch in let b = r.small in omega arith

  module _ (segments : ℕ) (rooms : words ≡ (segments + 1) * stride) where
    abbrev rank_at : ℕ → ℕ
    rank_at j = r.rank ((j + 1) * stride)

    -- which segment it is, from 0 on
    place : (c : ℕ) → IsSegment words stride c → (j : ℕ) × (j < segments) × ((j + 1) * stride ≡ c)
    place c b = let q : ℕ = c / stride in let big = r.roomy in let pos = b.0 in let top = b.2 in
        let whole : q * stride ≡ c = (let d = mod-add-div c stride in let m = b.1 in
        let swap : q * stride ≡ stride * q = mul_comm q stride in omega arith) in
        let some : 0 < q = dite (ℕ_discrete q 0) (λ e. let z : 0 * stride ≡ c =
        ap (λ (k : ℕ). k * stride) (sym e) ∙ whole in
        absurd (omega arith)) (λ ne. omega arith) in
        let next : q - 1 + 1 ≡ q = omega arith in
        let low : q - 1 < segments = dite (dec_le (segments + 1) q)
        (λ h. let m : (segments + 1) * stride ≤ q * stride = mul-le-mul_right stride h in
        absurd (omega arith)) (λ h. omega arith) in
        (q - 1, low, ap (λ (k : ℕ). k * stride) next ∙ whole)

    rank_same : (c : ℕ) (b : IsSegment words stride c) → rank_at (place c b).0 ≡ r.rank c
    rank_same c b = ap r.rank (place c b).2

    under_segments : (e : Entry) (es : List Entry)
        → Chain words stride (IsEntry words stride s.words r.ups) (e ∷ es)
        → length es ≤ below rank_at (r.rank e.seg) segments
    under_segments e [] ch = omega arith
    under_segments e (f ∷ fs) ch = let rest = under_segments f fs ch.2 in let b = ch.2.0.0 in
        let fall = (r.ranked e.seg f.seg (ch.0.1 ∙ ap some ch.1) b.0).0 in let j = place f.seg b in
        let is = rank_same f.seg b in
        let more = below_one rank_at (r.rank f.seg) (r.rank e.seg) segments j.0 j.1 (omega arith)
        (omega arith) in omega arith

    -- a chain has at most as many entries as there are segments
    pub chain_within : (es : List Entry)
        → Chain words stride (IsEntry words stride s.words r.ups) es → length es ≤ segments
    chain_within [] ch = omega arith
    chain_within (e ∷ es) ch = let rest = under_segments e es ch in let j = place e.seg ch.0.0 in
        let is = rank_same e.seg ch.0.0 in
        let more = below_one rank_at (r.rank e.seg) (1 + r.rank e.seg) segments j.0 j.1
        (omega arith) (omega arith) in
        let all = below_all rank_at (1 + r.rank e.seg) segments in omega arith
