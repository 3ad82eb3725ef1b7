-- A view that is cut in two, and two that become one, keep the rule.
use Rattle.std.proofs.Common.{◌≡◌, ℕ, ◌+◌, ◌%◌, ◌<◌, ◌≢◌, Bool, true, false, eqb}
use Rattle.std.proofs.Common.{cond, List, [], ◌∷◌, ◌++◌, get_or, set, sym, refl, ap, ◌∙◌}
use Rattle.std.proofs.Common.{subst, arith, ⊎_elim}
use mathlib.Core.Option.{some}
use lib.ListN.{get_elem?}
use Rattle.atomic_table.specs.Table.{State, Splits, Joins}
use Rattle.atomic_table.proofs.Lists.{at_set, at_snoc}
use Rattle.segment_store.specs.Entry.{Entry}
use Rattle.segment_store.specs.declared.board.SegmentView.{SegmentView}
use Rattle.segment_store.specs.Store.{idle}
use Rattle.seg_core.specs.Core.{total, is_at}
use Rattle.segment_store.specs.Store.{refs_in, refs, builds, held}
use Rattle.segment_store.specs.Store.{Knows, Kept}
use Rattle.segment_store.specs.Store.{hands_left, hands_right}
use Rattle.segment_store.specs.Store.{parts_left, gathers}
use Rattle.seg_core.proofs.Sums.{total_set, total_snoc}
use Rattle.seg_core.proofs.Sums.{is_at_other}
use Rattle.segment_store.proofs.Frames.{counts_as}

module _ (words stride : ℕ) where
  abbrev St : Type 0
  St = State (Unit {0}) SegmentView

  abbrev Rule : St → Type 0
  Rule = Kept words stride

  -- a view is cut in two
  cut_keeps : (s : St) (r : Rule s) (id : ℕ) (v a b : SegmentView) → get_elem? s.views id ≡ some v
      → ((d : ℕ) → 0 < d → refs d a + refs d b ≡ refs d v) → a.build ≡ v.build → b.build ≡ 0
      → held a + held b ≡ held v
      → Knows words stride s.words r.ups a → Knows words stride s.words r.ups b
      → Rule record { words = s.words; homes = s.homes; views = set s.views id a ++ b ∷ [] }
  cut_keeps s r id v a b at both same_build no_build same_held ka kb = record {
    ups = r.ups;
    rank = r.rank;
    roomy = r.roomy;
    small = r.small;
    long = r.long;
    many = r.many;
    counted = λ d bd. let t = total_set (refs d) s.views id v a at in
        let u = total_snoc (refs d) (set s.views id a) b in
        let t' = total_set (builds d) s.views id v a at in
        let u' = total_snoc (builds d) (set s.views id a) b in
        let dp : 0 < d = bd.0 in let q = both d dp in
        let m : builds d a ≡ builds d v = ap (is_at d) same_build in
        let m' : builds d b ≡ 0 = ap (is_at d) no_build ∙ is_at_other d 0 (λ e. omega arith) in
        counts_as (get_or s.words d 0) (total (refs d) s.views + total (is_at d) r.ups)
        (total (builds d) s.views) (get_or s.words d 0)
        (total (refs d) (set s.views id a ++ b ∷ []) + total (is_at d) r.ups)
        (total (builds d) (set s.views id a ++ b ∷ [])) (get_elem? r.ups d) (get_elem? r.ups d)
        refl (omega arith) (omega arith) refl (r.counted d bd);
    ranked = r.ranked;
    seats = λ j u e. ⊎_elim
        (λ (q : get_elem? (set s.views id a) j ≡ some u).
        ⊎_elim (λ (t : (j ≡ id) × (a ≡ u)). subst (Knows words stride s.words r.ups) t.1 ka)
        (λ (t : (j ≢ id) × (get_elem? s.views j ≡ some u)). r.seats j u t.1)
        (at_set s.views id j a u q))
        (λ (q : b ≡ u). subst (Knows words stride s.words r.ups) q kb)
        (at_snoc (set s.views id a) b u j e);
    tally = let t = total_set held s.views id v a at in
        let u = total_snoc held (set s.views id a) b in let o = r.tally in
        let q : total held (set s.views id a ++ b ∷ []) ≡ total held s.views = omega arith in
        o ∙ ap (λ (z : ℕ). z % 18446744073709551616) (sym q);
  }

  -- the child of a fork has the same chain
  pub hand_on : (id : ℕ) (v : SegmentView) → v.extra ≡ 1 → 0 < v.left → v.build ≡ 0 → 0 < v.holds
      → Splits Rule id v (hands_left v) (hands_right v)
  hand_on id v two counted_one free holder s r at = let k = r.seats id v at in
      cut_keeps s r id v (hands_left v) (hands_right v) at
      (λ d dp. split_refs d v.chain v.extra two) refl refl (omega arith)
      record {
        chained = k.chained;
        building_own = k.building_own;
        alone_is = k.alone_is;
        idle_is = λ h. absurd (omega arith);
      }
      record {
        chained = k.chained;
        building_own = λ h. absurd (omega arith);
        alone_is = λ h. absurd (omega arith);
        idle_is = λ h. absurd (omega arith);
      } where
        split_refs : (d : ℕ) (es : List Entry) (x : ℕ) → x ≡ 1
            → refs_in d es 0 + refs_in d es 0 ≡ refs_in d es x
        split_refs d [] x e = refl
        split_refs d (y ∷ ys) x e =
            elim (eqb y.seg d) as (λ (b : Bool). cond b (1 + 0) 0 + cond b (1 + 0) 0
            ≡ cond b (1 + x) 0) [ true ↦ omega arith | false ↦ refl ]

  -- the child of a fork has words of its own
  pub part : (id : ℕ) (v : SegmentView) → 0 < v.left → 0 < v.holds
      → Splits Rule id v (parts_left v) (idle 1 0)
  part id v counted_one holder s r at = let k = r.seats id v at in
      cut_keeps s r id v (parts_left v) (idle 1 0) at (λ d dp. omega arith) refl refl (omega arith)
      record {
        chained = k.chained;
        building_own = k.building_own;
        alone_is = k.alone_is;
        idle_is = λ h. absurd (omega arith);
      }
      record {
        chained = tt;
        building_own = λ h. absurd (omega arith);
        alone_is = λ h. absurd (omega arith);
        idle_is = λ h. (refl, refl);
      }

  -- a seat with no hold
  pub witness : (id : ℕ) (v : SegmentView) → Splits Rule id v v (idle 0 0)
  witness id v s r at = let k = r.seats id v at in
      cut_keeps s r id v v (idle 0 0) at (λ d dp. omega arith) refl refl (omega arith) k
      record {
        chained = tt;
        building_own = λ h. absurd (omega arith);
        alone_is = λ h. absurd (omega arith);
        idle_is = λ h. (refl, refl);
      }

  pub gather : (id : ℕ) (v : SegmentView) (other : ℕ) (w : SegmentView) → w.chain ≡ [] → w.build ≡ 0
      → Joins Rule id v other w (gathers v w) (idle 0 0)
  gather id v other w no_chain no_build s r at apart there = let a : SegmentView = gathers v w in
      let vs : List SegmentView = set s.views id a in let k = r.seats id v at in
      let ne : other ≢ id = apart in record {
        ups = r.ups;
        rank = r.rank;
        roomy = r.roomy;
        small = r.small;
        long = r.long;
        many = r.many;
        counted = λ d bd. let t = total_set (refs d) s.views id v a at in
            let u = total_set (refs d) vs other w (idle 0 0) there in
            let t' = total_set (builds d) s.views id v a at in
            let u' = total_set (builds d) vs other w (idle 0 0) there in
            let dp : 0 < d = bd.0 in
            let q : refs d w ≡ 0 = ap (λ (es : List Entry). refs_in d es w.extra) no_chain in
            let m : builds d w ≡ builds d (idle 0 0) = ap (is_at d) no_build in
            counts_as (get_or s.words d 0) (total (refs d) s.views + total (is_at d) r.ups)
            (total (builds d) s.views) (get_or s.words d 0)
            (total (refs d) (set vs other (idle 0 0)) + total (is_at d) r.ups)
            (total (builds d) (set vs other (idle 0 0))) (get_elem? r.ups d) (get_elem? r.ups d)
            refl (omega arith) (omega arith) refl (r.counted d bd);
        ranked = r.ranked;
        seats = λ j u e. ⊎_elim
            (λ (t : (j ≡ other) × (idle 0 0 ≡ u)). subst (Knows words stride s.words r.ups) t.1
            record {
              chained = tt;
              building_own = λ h. absurd (omega arith);
              alone_is = λ h. absurd (omega arith);
              idle_is = λ h. (refl, refl);
            })
            (λ (t : (j ≢ other) × (get_elem? vs j ≡ some u)). ⊎_elim
            (λ (q : (j ≡ id) × (a ≡ u)). subst (Knows words stride s.words r.ups) q.1
            record {
              chained = k.chained;
              building_own = k.building_own;
              alone_is = k.alone_is;
              idle_is = λ h. k.idle_is (omega arith);
            })
            (λ (q : (j ≢ id) × (get_elem? s.views j ≡ some u)). r.seats j u q.1)
            (at_set s.views id j a u t.1))
            (at_set vs other j (idle 0 0) u e);
        tally = let t = total_set held s.views id v a at in
            let u = total_set held vs other w (idle 0 0) there in let o = r.tally in
            let q : total held (set vs other (idle 0 0)) ≡ total held s.views = omega arith in
            o ∙ ap (λ (z : ℕ). z % 18446744073709551616) (sym q);
      }
