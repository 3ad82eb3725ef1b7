-- Each live segment is in the chain of some view.
use Rattle.std.proofs.Common.{◌≡◌, ℕ, zero, suc, ◌+◌, ◌<◌, ◌≢◌, ◌⊎◌, List, [], ◌∷◌, get_or, sym}
use Rattle.std.proofs.Common.{refl, ap, ◌∙◌, arith, ⊎_elim, inl, inr}
use mathlib.Core.Option.{some, some-injective}
use mathlib.Core.Logic.{dite}
use native.Mathlib.Decide.{ℕ_discrete}
use lib.ListN.{get_elem?}
use Rattle.atomic_table.specs.Table.{State}
use Rattle.segment_store.specs.Entry.{Entry}
use Rattle.segment_store.specs.declared.board.SegmentView.{SegmentView}
use Rattle.segment_store.specs.Store.{building, first_of, refs, IsSegment, IsEntry}
use Rattle.seg_core.specs.Core.{total, is_at}
use Rattle.segment_store.specs.Store.{Chain, Has, Kept}
use Rattle.segment_store.proofs.Sums.{refs_not, chain_has}
use Rattle.seg_core.proofs.Sums.{is_at_other}
use Rattle.segment_store.proofs.Closes.{total_some, highest, is_highest}

pub record InChain (s : State (Unit {0}) SegmentView) (c : ℕ) : Type 0 where
  pub seat : ℕ
  pub view : SegmentView
  pub at : get_elem? s.views seat ≡ some view
  pub e : Entry
  pub has : Has e view.chain
  pub seg : e.seg ≡ c

head_has : (es : List Entry) → 0 < first_of es → (e : Entry) × Has e es × (e.seg ≡ first_of es)
head_has [] h = absurd (omega arith)
head_has (e ∷ es) h = (e, inl refl, refl)

module _ (words stride : ℕ) where
  next_has : (B : Entry → Type 0) (es : List Entry) (e : Entry) → Chain words stride B es → Has e es
      → 0 < e.up → (x : Entry) × Has x es × (x.seg ≡ e.up)
  next_has B [] e ch at h = absurd at
  next_has B (x ∷ xs) e ch at h = ⊎_elim
      (λ (q : x ≡ e). let up : e.up ≡ first_of xs = ap (λ (y : Entry). y.up) (sym q) ∙ ch.1 in
      let t = head_has xs (omega arith) in (t.0, inr t.1, t.2 ∙ sym up))
      (λ q. let t = next_has B xs e ch.2 q h in (t.0, inr t.1, t.2)) at

  module _ (s : State (Unit {0}) SegmentView) (r : Kept words stride s) where
    reach : (k c : ℕ) → IsSegment words stride c → highest r.rank words < r.rank c + k
        → get_or s.words c 0 ≢ 0 → get_or s.words c 0 ≢ building → InChain s c
    reach zero c b far live done = let i = b.2 in let h = is_highest r.rank words c i in
        absurd (omega arith)
    reach (suc k) c b far live done = let n = (r.counted c b).1 done in let is = n.0 in
        let pos = b.0 in dite (ℕ_discrete (total (refs c) s.views) 0)
        (λ none. let t = total_some (is_at c) r.ups (omega arith) in let d : ℕ = t.0 in
        let above = t.3 in
        let up : t.1 ≡ c = dite (ℕ_discrete t.1 c) (λ e. e) (λ other. let z =
        is_at_other c t.1 other in absurd (omega arith)) in
        let here : get_elem? r.ups d ≡ some c = t.2 ∙ ap some up in
        let rk = r.ranked d c here pos in let rk0 = rk.0 in
        let not_bare : (get_or s.words d 0 ≡ 0) ⊎ (get_or s.words d 0 ≡ building)
        → ⊥ = λ q. let z : c ≡ 0 = some-injective c 0 (sym here ∙ (r.counted d rk.1).2 q) in
        omega arith in
        let p = reach k d rk.1 (omega arith) (λ q. not_bare (inl q)) (λ q. not_bare (inr q)) in
        let ch = (r.seats p.seat p.view p.at).chained in
        let blk = chain_has words stride (IsEntry words stride s.words r.ups) p.view.chain p.e
        ch p.has in
        let e_up : p.e.up ≡ c = some-injective p.e.up c (sym blk.1
        ∙ (ap (get_elem? r.ups) p.seg ∙ here)) in
        let x = next_has (IsEntry words stride s.words r.ups) p.view.chain p.e ch p.has
        (omega arith) in
        record { seat = p.seat; view = p.view; at = p.at; e = x.0; has = x.1; seg = x.2 ∙ e_up })
        (λ held. let t = total_some (refs c) s.views (omega arith) in let v : SegmentView = t.1 in
        let above = t.3 in
        let first : first_of v.chain ≡ c = dite (ℕ_discrete (first_of v.chain) c) (λ e. e)
        (λ other. let z = refs_not c v.extra v.chain other in absurd (omega arith)) in
        let x = head_has v.chain (omega arith) in
        record { seat = t.0; view = v; at = t.2; e = x.0; has = x.1; seg = x.2 ∙ first })

    pub reached : (c : ℕ) → IsSegment words stride c → get_or s.words c 0 ≢ 0
        → get_or s.words c 0 ≢ building → InChain s c
    reached c b live done = reach (suc (highest r.rank words)) c b (omega arith) live done
