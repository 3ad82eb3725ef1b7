-- Laws of paths and of maps from paths.
use Rattle.std.proofs.Common.{◌≡◌, ◌≢◌, ◌⊎◌, inl, inr, ℕ, Bool, true, false, cond, List, [], ◌∷◌, ◌++◌, Some, refl, sym, ap, ◌∙◌, subst}
use Rattle.std.proofs.lemmas.Bool.{true≢false}
use mathlib.Core.Path.{fun_ext}
use Rattle.rev_num.specs.Path.{Path, child, same}
use Rattle.rev_num.proofs.PostOrder.{same_refl, same-eq}
use Rattle.revision_machine.specs.PathMap.{PathMap, with_at}
use Rattle.revision_machine.specs.Laws.{IsIn, IsDistinct}
pub use Rattle.rev_num.proofs.Options.{some_eq as some_inj}

pub apart-same : (p q : Path) → p ≢ q → same p q ≡ false
apart-same p q apart = go (same p q) refl
  where
    go : (b : Bool) → same p q ≡ b → b ≡ false
    go false e = refl
    go true e = absurd (apart (same-eq p q e))

pub decide_same : (p q : Path) → (p ≡ q) ⊎ (p ≢ q)
decide_same p q = go (same p q) refl
  where
    go : (b : Bool) → same p q ≡ b → (p ≡ q) ⊎ (p ≢ q)
    go true e = inl (same-eq p q e)
    go false e = inr (λ eq. true≢false (sym (subst (λ x. same x q ≡ true) (sym eq) (same_refl q)) ∙ e))

-- whether a path is in a list is decidable
pub decide_in : (p : Path) (ps : List Path) → IsIn p ps ⊎ (IsIn p ps → ⊥)
decide_in p [] = inr (λ i. i)
decide_in p (q ∷ ps) = go (decide_same p q) (decide_in p ps)
  where
    go : (p ≡ q) ⊎ (p ≢ q) → IsIn p ps ⊎ (IsIn p ps → ⊥) → IsIn p (q ∷ ps) ⊎ (IsIn p (q ∷ ps) → ⊥)
    go (inl e) d = inl (inl e)
    go (inr apart) (inl i) = inl (inr i)
    go (inr apart) (inr no_in) = inr not_here
      where
        not_here : IsIn p (q ∷ ps) → ⊥
        not_here (inl e) = apart e
        not_here (inr i) = no_in i

-- one more path in a list of which no two are the same
pub distinct_more : (ps : List Path) (c : Path) → IsDistinct ps → (IsIn c ps → ⊥) → IsDistinct (ps ++ c ∷ [])
distinct_more [] c d out = (λ v. v, tt)
distinct_more (p ∷ ps) c d out =
    (λ v. not_in ps v d.0 (λ e. out (inl (sym e))), distinct_more ps c d.1 (λ v. out (inr v)))
  where
    not_in : (qs : List Path) → IsIn p (qs ++ c ∷ []) → (IsIn p qs → ⊥) → (p ≡ c → ⊥) → ⊥
    not_in [] (inl e) f g = g e
    not_in [] (inr none) f g = none
    not_in (q ∷ qs) (inl e) f g = f (inl e)
    not_in (q ∷ qs) (inr h) f g = not_in qs h (λ v. f (inr v)) g

pub at_here : {A : Type 0} (m : PathMap A) (r : Path) (a : A) → with_at m r a r ≡ Some a
at_here m r a = ap (λ b. cond b (Some a) (m r)) (same_refl r)

pub at_other : {A : Type 0} (m : PathMap A) (r : Path) (a : A) (p : Path) → r ≢ p → with_at m r a p ≡ m p
at_other m r a p apart = ap (λ b. cond b (Some a) (m p)) (apart-same r p apart)

pub child-apart : (r : Path) (k : ℕ) → r ≢ child r k
child-apart [] k e = cc
child-apart (x ∷ r) k e = child-apart r k (tail_eq e)
  where
    tail_eq : {x y : ℕ} {p q : Path} → x ∷ p ≡ y ∷ q → p ≡ q
    tail_eq e = cc

pub overwrite : {A : Type 0} (m : PathMap A) (r : Path) (a b : A) → with_at (with_at m r b) r a ≡ with_at m r a
overwrite {A} m r a b = fun_ext λ p. go (same r p) p
  where
    go : (t : Bool) (p : Path) → cond t (Some a) (cond t (Some b) (m p)) ≡ cond t (Some a) (m p)
    go true p = refl
    go false p = refl

pub swap : {A : Type 0} (m : PathMap A) (r o : Path) (a b : A) → r ≢ o
    → with_at (with_at m r a) o b ≡ with_at (with_at m o b) r a
swap {A} m r o a b apart = fun_ext λ p. go p (same r p) refl (same o p) refl
  where
    go : (p : Path) (s : Bool) → same r p ≡ s → (t : Bool) → same o p ≡ t
        → cond t (Some b) (cond s (Some a) (m p)) ≡ cond s (Some a) (cond t (Some b) (m p))
    go p true e true f = absurd (apart (same-eq r p e ∙ sym (same-eq o p f)))
    go p true e false f = refl
    go p false e true f = refl
    go p false e false f = refl

cons_tail : {x y : ℕ} {p q : Path} → x ∷ p ≡ y ∷ q → p ≡ q
cons_tail e = cc

cons_head : {x y : ℕ} {p q : Path} → x ∷ p ≡ y ∷ q → x ≡ y
cons_head e = cc

not_child_of_one : (x y : ℕ) (q : Path) (k : ℕ) → child (y ∷ q) k ≢ x ∷ []
not_child_of_one x y [] k e = cc
not_child_of_one x y (z ∷ q) k e = cc

pub child-same : (r s : Path) (j k : ℕ) → child r j ≡ child s k → (r ≡ s) × (j ≡ k)
child-same [] [] j k e = (refl, cons_head e)
child-same [] (y ∷ s) j k e = absurd (not_child_of_one j y s k (sym e))
child-same (x ∷ r) [] j k e = absurd (not_child_of_one k x r j e)
child-same (x ∷ r) (y ∷ s) j k e =
    let below = child-same r s j k (cons_tail e) in
    let hd : x ≡ y = cons_head e in
    let tl : r ≡ s = below.0 in
    (λ i. hd i ∷ tl i, below.1)
