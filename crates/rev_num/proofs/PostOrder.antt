-- Laws of post-order, and what the loop over two paths needs of it.
use Rattle.std.proofs.Common.{◌≡◌, ◌≢◌, ◌⊎◌, inl, inr, ℕ, ◌<◌, ◌≤◌, true, ◌&&◌, ◌||◌, List, [], ◌∷◌, ◌++◌, length, drop, nat_lt, refl, sym, subst, ap, ◌∙◌, arith, rules, length-drop, append_assoc}
use Rattle.std.proofs.lemmas.Bool.{eqb-true, eq-eqb, and_parts, and_from, or_cases, or_right, ltb-true, lt-ltb, cases_order}
use Rattle.std.specs.Prelude.{IsTrue, nat_eq}
use Rattle.rev_num.specs.Path.{Path, child, same, before}
use Rattle.rev_num.specs.PostOrder.{ComesBefore, IsStrictTotalOrder}

-- ---- equal paths

pub same_refl : (p : Path) → same p p ≡ true
same_refl [] = refl
same_refl (x ∷ p) = and_from _ _ (eq-eqb x x refl) (same_refl p)

pub same-eq : (p q : Path) → same p q ≡ true → p ≡ q
same-eq [] [] e = refl
same-eq [] (y ∷ q) e = cc
same-eq (x ∷ p) [] e = cc
same-eq (x ∷ p) (y ∷ q) e =
    let both = and_parts _ _ e in
    let head : x ≡ y = eqb-true x y both.0 in
    let tail : p ≡ q = same-eq p q both.1 in
    λ i. head i ∷ tail i

-- ---- one step of the comparison

-- the two ways in which one comes before another: at the first number, or behind it
pub heads : (x y : ℕ) (q r : Path) → before (x ∷ q) (y ∷ r) ≡ true → (x < y) ⊎ ((x ≡ y) × (before q r ≡ true))
heads x y q r e = of_cases (or_cases (nat_lt x y) (nat_eq x y && before q r) e)
  where
    of_cases : (nat_lt x y ≡ true) ⊎ ((nat_eq x y && before q r) ≡ true) → (x < y) ⊎ ((x ≡ y) × (before q r ≡ true))
    of_cases (inl f) = inl (ltb-true x y f)
    of_cases (inr f) = let both = and_parts (nat_eq x y) (before q r) f in inr (eqb-true x y both.0, both.1)

pub by_less : (x y : ℕ) (q r : Path) → x < y → before (x ∷ q) (y ∷ r) ≡ true
by_less x y q r h = ap (λ b. b || (nat_eq x y && before q r)) (lt-ltb x y h)

pub by_rest : (x y : ℕ) (q r : Path) → x ≡ y → before q r ≡ true → before (x ∷ q) (y ∷ r) ≡ true
by_rest x y q r e h =
    or_right (nat_lt x y) (nat_eq x y && before q r) (and_from (nat_eq x y) (before q r) (eq-eqb x y e) h)

-- ---- a strict total order

pub before_trans : (p q r : Path) → before p q ≡ true → before q r ≡ true → before p r ≡ true
before_trans [] q r e f = absurd cc
before_trans (x ∷ p) [] r e f = absurd cc
before_trans (x ∷ p) (y ∷ q) [] e f = refl
before_trans (x ∷ p) (y ∷ q) (z ∷ r) e f = go (before_trans p q r) (heads x y p q e) (heads y z q r f)
  where
    go : (before p q ≡ true → before q r ≡ true → before p r ≡ true) → (x < y) ⊎ ((x ≡ y) × (before p q ≡ true))
        → (y < z) ⊎ ((y ≡ z) × (before q r ≡ true)) → before (x ∷ p) (z ∷ r) ≡ true
    go later (inl a) (inl b) = by_less x z p r (omega arith)
    go later (inl a) (inr b) = by_less x z p r (omega (arith, b.0))
    go later (inr a) (inl b) = by_less x z p r (omega (arith, a.0))
    go later (inr a) (inr b) = by_rest x z p r (a.0 ∙ b.0) (later a.1 b.1)

pub before_irrefl : (p : Path) → before p p ≢ true
before_irrefl [] e = cc
before_irrefl (x ∷ p) e = go (before_irrefl p) (heads x x p p e)
  where
    go : (before p p ≢ true) → (x < x) ⊎ ((x ≡ x) × (before p p ≡ true)) → ⊥
    go later (inl a) = omega arith
    go later (inr b) = later b.1

pub before_total : (p q : Path) → p ≢ q → (before p q ≡ true) ⊎ (before q p ≡ true)
before_total [] [] apart = absurd (apart refl)
before_total [] (y ∷ q) apart = inr refl
before_total (x ∷ p) [] apart = inl refl
before_total (x ∷ p) (y ∷ q) apart = go (before_total p q) (cases_order x y)
  where
    go : (p ≢ q → (before p q ≡ true) ⊎ (before q p ≡ true)) → (x ≡ y) ⊎ ((x < y) ⊎ (y < x))
        → (before (x ∷ p) (y ∷ q) ≡ true) ⊎ (before (y ∷ q) (x ∷ p) ≡ true)
    go later (inl head) = either (later (λ tail. apart (λ i. head i ∷ tail i)))
      where
        either : (before p q ≡ true) ⊎ (before q p ≡ true)
            → (before (x ∷ p) (y ∷ q) ≡ true) ⊎ (before (y ∷ q) (x ∷ p) ≡ true)
        either (inl first) = inl (by_rest x y p q head first)
        either (inr first) = inr (by_rest y x q p (sym head) first)
    go later (inr (inl less)) = inl (by_less x y p q less)
    go later (inr (inr less)) = inr (by_less y x q p less)

pub strict_total_order : IsStrictTotalOrder (λ p q. IsTrue (before p q))
strict_total_order = record { irreflexive = before_irrefl; transitive = before_trans; total = before_total }

-- ---- the test is exact

pub before_extension : (r : Path) (first : ℕ) (rest : Path) → before (r ++ first ∷ rest) r ≡ true
before_extension [] first rest = refl
before_extension (x ∷ r) first rest = by_rest x x (r ++ first ∷ rest) r refl (before_extension r first rest)

pub before_behind : (front q r : Path) → before q r ≡ true → before (front ++ q) (front ++ r) ≡ true
before_behind [] q r h = h
before_behind (x ∷ front) q r h = by_rest x x (front ++ q) (front ++ r) refl (before_behind front q r h)

pub before-comes : (q r : Path) → before q r ≡ true → ComesBefore q r
before-comes [] r e = absurd cc
before-comes (x ∷ q) [] e = inl (record { first = x; rest = q; is = refl })
before-comes (x ∷ q) (y ∷ r) e = go (before-comes q r) (heads x y q r e)
  where
    go : (before q r ≡ true → ComesBefore q r) → (x < y) ⊎ ((x ≡ y) × (before q r ≡ true)) → ComesBefore (x ∷ q) (y ∷ r)
    go later (inl less) = inr (record {
      front = [];
      lesser = x;
      greater = y;
      less = less;
      rest_of_q = q;
      rest_of_r = r;
      q_is = refl;
      r_is = refl;
    })
    go later (inr h) = longer h.0 (later h.1)
      where
        longer : x ≡ y → ComesBefore q r → ComesBefore (x ∷ q) (y ∷ r)
        longer head (inl d) =
            let tail = d.is in inl (record { first = d.first; rest = d.rest; is = λ i. head i ∷ tail i })
        longer head (inr d) = let tail = d.q_is in inr (record {
          front = y ∷ d.front;
          lesser = d.lesser;
          greater = d.greater;
          less = d.less;
          rest_of_q = d.rest_of_q;
          rest_of_r = d.rest_of_r;
          q_is = λ i. head i ∷ tail i;
          r_is = ap (λ t. y ∷ t) d.r_is;
        })

pub comes-before : (q r : Path) → ComesBefore q r → before q r ≡ true
comes-before q r (inl d) = subst (λ p. before p r ≡ true) (sym d.is) (before_extension r d.first d.rest)
comes-before q r (inr d) =
    subst (λ p. before p r ≡ true) (sym d.q_is)
    (subst (λ p. before (d.front ++ d.lesser ∷ d.rest_of_q) p ≡ true) (sym d.r_is)
    (before_behind d.front _ _ (by_less d.lesser d.greater d.rest_of_q d.rest_of_r d.less)))

-- ---- children

pub child_before : (r : Path) (k : ℕ) → before (child r k) r ≡ true
child_before r k = before_extension r k []

pub earlier_child_before : (r : Path) (j k : ℕ) (below : Path) → j < k → before (child r j ++ below) (child r k) ≡ true
earlier_child_before r j k below less =
    subst (λ p. before p (child r k) ≡ true) (sym (append_assoc r (j ∷ []) below))
    (before_behind r (j ∷ below) (k ∷ []) (by_less j k below [] less))

-- ---- two paths behind a common front

-- where one of two lists is used up, the longer one comes first
pub before-used_up : (q r : List ℕ) → (length q ≡ 0) ⊎ (length r ≡ 0) → before q r ≡ nat_lt (length r) (length q)
before-used_up [] r ends = grind (arith, rules)
before-used_up (x ∷ q) [] ends = grind (arith, rules)
before-used_up (x ∷ q) (y ∷ r) ends = grind (arith, rules)

-- the same behind a common front
pub before-drop_all : (q r : List ℕ) (i : ℕ) → i ≤ length q → i ≤ length r → (length q ≤ i) ⊎ (length r ≤ i)
    → before (drop i q) (drop i r) ≡ nat_lt (length r) (length q)
before-drop_all q r i in_q in_r ends =
    grind (arith, rules, before-used_up (drop i q) (drop i r), length-drop i q, length-drop i r)
