-- Maps whose keys are lists of numbers, after a change at one key.
--   other_found     other numbers find what they found before
use Rattle.std.proofs.Common.{◌≡◌, ◌∙◌, ℕ, Bool, true, false, List, Option, Vec, sym, subst, true≢false}
use Rattle.std.proofs.lemmas.Map.Text.{is_eq-slice_cmp}
use Rattle.std.specs.declared.alloc.Global.{Global}
use Rattle.std.specs.Ordering.{nat_cmp, is_eq}
use Rattle.std.specs.BTreeMap.{BTreeMap, get_by, UpdatesBy}
use Rattle.std.specs.Map.{AreApart, IsKeyTest, KeepsOthers, lookup}
use Rattle.std.specs.Cmp.{eq_by_cmp_equiv}
use Rattle.std.specs.Cmp.Lexicographic.{slice_cmp, nat_list_cmp_total}
use Rattle.rev_num.specs.Path.{same}
use Rattle.rev_num.proofs.PostOrder.{same_refl, same-eq}
use Rattle.std.proofs.lemmas.Bool.{false_from_ne_true}

abbrev Key : Type 0
Key = Vec ℕ Global

-- a key that has these numbers has not others
apart_keys : (w p k : List ℕ) → same w p ≡ false → is_eq (slice_cmp nat_cmp w k) ≡ true
    → is_eq (slice_cmp nat_cmp p k) ≡ false
apart_keys w p k h e =
    let wk : w ≡ k = same-eq w k (sym (is_eq-slice_cmp w k) ∙ e) in
    is_eq-slice_cmp p k
    ∙ false_from_ne_true (same p k)
    (λ f. true≢false (sym (subst (λ v. same w v ≡ true) (wk ∙ sym (same-eq p k f)) (same_refl w)) ∙ h))

-- what another query finds
others : {K X : Type 0} (eq : K → K → Bool) (test : K → Bool) (old new : List (K × X)) → KeepsOthers eq test old new
    → (other : K → Bool) → IsKeyTest eq other → AreApart test other → lookup other new ≡ lookup other old
unfolding KeepsOthers
others eq test old new h = h

pub other_found : {X : Type 0} (m n : BTreeMap Key X) (key : Key) (o : Option X) (p : List ℕ)
    → same key.items p ≡ false
    → UpdatesBy (λ (a b : Key). slice_cmp nat_cmp a.items b.items) (λ (k : Key). slice_cmp nat_cmp key.items k.items) m
    n o
    → get_by (λ (k : Key). slice_cmp nat_cmp p k.items) n ≡ get_by (λ (k : Key). slice_cmp nat_cmp p k.items) m
other_found m n key o p e h =
    others _ _ m.entries n.entries h.3 (λ k. is_eq (slice_cmp nat_cmp p k.items))
    (λ x y. (eq_by_cmp_equiv nat_list_cmp_total).congr p x.items y.items)
    (λ k. apart_keys key.items p k.items e)
