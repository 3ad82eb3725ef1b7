-- A seat's base is that of the core that words and views show.
use Rattle.std.proofs.Common.{◌≡◌, ◌≢◌, ℕ, zero, suc, ◌+◌, ◌/◌, ◌%◌, ◌<◌, ◌≤◌, Bool, eqb, cond}
use Rattle.std.proofs.Common.{List, [], ◌∷◌, length, get_or, refl, sym, ap, ◌∙◌, subst, arith}
use Rattle.std.proofs.Common.{⊎_elim, eq-eqb, ne_eqb, None, Some}
use Rattle.std.specs.Int.{bit_at}
use mathlib.Core.Option as m
use mathlib.Core.Logic.{dite}
use native.Mathlib.Decide.{ℕ_discrete}
use lib.ListN.{get_elem?}
use Rattle.atomic_table.specs.Table.{State}
use Rattle.version_map.specs.Overlay.{word_or}
use Rattle.seg_core.specs.Core as c
use Rattle.seg_core.specs.Core.{total, is_at}
use Rattle.segment_store.specs.Entry.{Entry}
use Rattle.segment_store.specs.declared.board.SegmentView.{SegmentView}
use Rattle.segment_store.specs.Store as st
use Rattle.segment_store.specs.Base.{word_of, bit_of, value, Whole, Sound}
use Rattle.segment_store.specs.Shown.{worded, Shows}
use Rattle.seg_core.proofs.Sums.{total_one, is_at_same}
use Rattle.segment_store.proofs.Ties.{live_at}

module _ (words stride masks : ℕ) (big : 2 + masks ≤ stride) (rows : (l : ℕ)
    → 2 + masks + l < stride → l / 64 < masks) (s : State (Unit {0}) SegmentView)
    (q : st.Kept words stride s) (k : c.Core) (r : Shows words stride masks s k) (root : List ℕ)
    (l : ℕ) (lt : 2 + masks + l < stride) where
  abbrev bare : ℕ → ℕ
  bare i = get_or root i 0

  -- the core has no segment 0
  at_none : (n : ℕ) → c.base_of n bare k.segs 0 l ≡ bare l
  at_none zero = refl
  at_none (suc n) = go (get_elem? k.segs 0) refl where
    go : (o : m.Option c.Seg) → get_elem? k.segs 0 ≡ o
        → c.through (bare l) (λ p. c.base_of n bare k.segs p l) l o ≡ bare l
    go m.none e = refl
    go (m.some c.free) e = refl
    go (m.some (c.building h d)) e = refl
    go (m.some (c.live d p x)) e = ⊎_elim (λ (b : st.IsSegment words stride 0). let z = b.0 in
        absurd (omega arith)) (λ (z : c.live d p x ≡ c.free). absurd (subst is_live z tt))
        (r.others 0 (c.live d p x) e) where
          is_live : c.Seg → Type 0
          is_live c.free = ⊥
          is_live (c.building h d) = ⊥
          is_live (c.live d p x) = Unit {0}

  -- the word by the segment's words, or below
  by_words : (e : Entry) (base : ℕ) → st.Shows words stride s.words e.seg e.body
      → Whole words stride masks e
      → word_or base (worded masks s.words e.seg l) ≡ cond (eqb (bit_of e l) 1)
      (word_of e (2 + masks + l)) base
  by_words e base sh w = let i : ℕ = 2 + l / 64 in let low = rows l lt in
      let mask : get_or s.words (e.seg + i) 0 ≡ word_of e i =
      (sh (e.seg + i) (word_of e i) (w.header i (omega arith) (omega arith))).2 in
      let bit : bit_at (get_or s.words (e.seg + i) 0) (l % 64) ≡ bit_of e l =
      ap (λ (z : ℕ). bit_at z (l % 64)) mask in
      let x : ℕ = get_or s.words (e.seg + (2 + masks + l)) 0 in dite (ℕ_discrete (bit_of e l) 1)
      (λ one. let word : x ≡ word_of e (2 + masks + l) =
      (sh (e.seg + (2 + masks + l)) (word_of e (2 + masks + l)) (w.values l lt one)).2 in
      ap (λ (b : Bool). word_or base (cond b (Some x) None))
      (eq-eqb (bit_at (get_or s.words (e.seg + i) 0) (l % 64)) 1 (bit ∙ one))
      ∙ (word ∙ sym (ap (λ (b : Bool). cond b (word_of e (2 + masks + l)) base)
      (eq-eqb (bit_of e l) 1 one))))
      (λ ne. ap (λ (b : Bool). word_or base (cond b (Some x) None))
      (ne_eqb (bit_at (get_or s.words (e.seg + i) 0) (l % 64)) 1 (λ z. ne (sym bit ∙ z)))
      ∙ sym (ap (λ (b : Bool). cond b (word_of e (2 + masks + l)) base)
      (ne_eqb (bit_of e l) 1 ne)))

  pub base_ties : (es : List Entry)
      → st.Chain words stride (st.IsEntry words stride s.words q.ups) es
      → Sound words stride masks es
      → (0 < st.first_of es → 0 < total (st.refs (st.first_of es)) s.views
      + total (is_at (st.first_of es)) q.ups)
      → (n : ℕ) → length es ≤ n → c.base_of n bare k.segs (st.first_of es) l ≡ value masks root es l
  base_ties [] ch so some n many = at_none n
  base_ties (e ∷ es) ch so some zero many = absurd (omega arith)
  base_ties (e ∷ es) ch so some (suc n) many = let b = ch.0.0 in let count = q.counted e.seg b in
      let x : ℕ = get_or s.words e.seg 0 in let referred = some b.0 in
      let not_building : x ≢ st.building = λ z. let y = (count.0 z).0 in omega arith in
      let y = count.1 not_building in let y0 = y.0 in
      let t = live_at words stride masks big rows s k r e.seg b (omega arith) y.1 in let d = t.0 in
      let p : ℕ = t.1 in let sh = t.4 in
      let parent : p ≡ st.first_of es = sym sh.3 ∙ ((ch.0.3 (e.seg + 1) e.up ch.0.2).2 ∙ ch.1) in
      let next : c.base_of n bare k.segs (st.first_of es) l ≡ value masks root es l =
      base_ties es ch.2 so.2
      (λ pos. let o = total_one (is_at (st.first_of es)) q.ups e.seg e.up ch.0.1 in
      let one : is_at (st.first_of es) e.up ≡ 1 =
      subst (λ (z : ℕ). is_at (st.first_of es) z ≡ 1) (sym ch.1)
      (is_at_same (st.first_of es)) in omega arith) n (omega arith) in
      ap (c.through (bare l) (λ p. c.base_of n bare k.segs p l) l) t.3
      ∙ (ap (λ (z : ℕ). word_or (c.base_of n bare k.segs z l) (d l)) parent
      ∙ (ap (λ (z : ℕ). word_or z (d l)) next
      ∙ (ap (word_or (value masks root es l)) (sh.4 l lt)
      ∙ by_words e (value masks root es l) ch.0.3 so.0)))
