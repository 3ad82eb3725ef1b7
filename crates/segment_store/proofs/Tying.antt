-- The start, and the base of a seat's chain.
use Rattle.std.proofs.Common.{◌≡◌, ℕ, zero, suc, ◌+◌, ◌-◌, ◌<◌, ◌≤◌, List, [], ◌∷◌, get_or}
use Rattle.std.proofs.Common.{replicate, refl, inr, sym, ap, ◌∙◌, subst, arith}
use mathlib.Core.Option.{some, some-injective, some-ne-none}
use Rattle.seg_core.proofs.Frees.{all_free}
use Rattle.seg_core.specs.Steps.{empty}
use lib.ListN.{get_elem?}
use Rattle.seg_core.specs.Core.{free}
use Rattle.segment_store.specs.Entry.{Entry}
use Rattle.segment_store.specs.declared.board.SegmentView.{SegmentView}
use Rattle.segment_store.specs.Store as st
use Rattle.segment_store.specs.Shown.{list_of, Shown}
use Rattle.segment_store.specs.Rule.{St, BasesTie}
use Rattle.segment_store.proofs.Grounds.{base_ties}
use Rattle.segment_store.proofs.Keeps.{referred}

-- the first segment's count is that of a live segment
pub counted_first : (words stride : ℕ) → 0 < stride → (s : St) → st.Kept words stride s
    → (id : ℕ) (v : SegmentView) → get_elem? s.views id ≡ some v → (e : Entry) (es : List Entry)
    → v.chain ≡ e ∷ es
    → (0 < e.seg) × (0 < get_or s.words e.seg 0) × (get_or s.words e.seg 0 ≤ 4294967296)
counted_first words stride big s q id v at e es is = let first : st.first_of v.chain ≡ e.seg =
    ap st.first_of is in
    let ch = subst (st.Chain words stride (st.IsEntry words stride s.words q.ups)) is
    (q.seats id v at).chained in let pos = ch.0.0.0 in
    let z = referred words stride big s q id v at (omega arith) in (
      pos,
      subst (λ (y : ℕ). 0 < get_or s.words y 0) first z.1,
      subst (λ (y : ℕ). get_or s.words y 0 ≤ 4294967296) first z.3,
    )

blank_at : (n c : ℕ) → c < n → get_elem? (replicate n free) c ≡ some free
blank_at zero c h = absurd (omega arith)
blank_at (suc n) zero h = refl
blank_at (suc n) (suc c) h = blank_at n c (omega arith)

pub none_listed_at : (n h : ℕ) → h < n → get_elem? (replicate {A = List ℕ} n []) h ≡ some []
none_listed_at zero h lt = absurd (omega arith)
none_listed_at (suc n) zero lt = refl
none_listed_at (suc n) (suc h) lt = none_listed_at n h (omega arith)

-- at the start all segments are free
pub opens_show : (words stride masks holders : ℕ) (ws : List ℕ) → 2 + masks ≤ stride → 0 < holders
    → ((i : ℕ) → 0 < i → i < words → get_or ws i 0 ≡ 0)
    → Shown words stride masks ws (st.idle 1 0 ∷ []) (empty words holders (stride - (2 + masks)))
opens_show words stride masks holders ws big some_holders zeros = record {
  segs = λ c b. (free, blank_at words c b.2, zeros c b.0 b.2);
  others = λ c x at. inr (sym (all_free words c x at));
  lists = λ i v e. only i v e;
  size = omega arith;
} where
  only : (i : ℕ) (v : SegmentView) → get_elem? (st.idle 1 0 ∷ []) i ≡ some v
      → get_elem? (replicate holders []) i ≡ some (list_of v)
  only zero v e = none_listed_at holders 0 some_holders
      ∙ ap (λ (z : SegmentView). some (list_of z)) (some-injective (st.idle 1 0) v e)
  only (suc i) v e = absurd (some-ne-none v (sym e))

pub bases_tie : (words stride masks : ℕ) → BasesTie words stride masks
bases_tie words stride masks s k rule r id v at sound root n l many lt = let q = rule.kept in
    let fit = rule.fit in let roomy = q.roomy in let big : 0 < stride = omega arith in
    base_ties words stride masks fit.0 fit.1 s q k r root l lt v.chain (q.seats id v at).chained
    sound (λ pos. let z = referred words stride big s q id v at pos in let z1 = z.1 in
    let z2 = z.2 in omega arith) n many
