-- Each step keeps the counts.
use Rattle.std.proofs.Common.{◌≡◌, ◌≢◌, ℕ, ◌+◌, ◌-◌, ◌<◌, List, [], ◌∷◌, set, sym, refl, ◌∙◌, subst}
use Rattle.std.proofs.Common.{arith, ⊎_elim}
use mathlib.Core.Option as m
use lib.ListN.{get_elem?}
use Rattle.atomic_table.proofs.Lists.{at_set, set_else}
use Rattle.seg_core.specs.Core.{Seg, free, building, live, Core, times, up_is, refs, At, Has}
use Rattle.seg_core.specs.Core.{CountIs, Counted}
use Rattle.seg_core.specs.Steps.{CoreStep, claim, put, publish, share, hand_on, release, collapse}
use Rattle.seg_core.specs.Steps.{joined, seg_to, list_to, Steps, no_delta, with_word}
use Rattle.seg_core.proofs.Sums.{total_set, total_one, is_at_same, is_at_other, times_joined}

-- the segment c and the list of h change
both_keep : (k : Core) → Counted k → (c h : ℕ) (x y : Seg) (xs ys : List ℕ) → At k c x → Has k h xs
    → ((e : ℕ) → e ≢ c → 0 < e → times e ys + up_is e y ≡ times e xs + up_is e x)
    → ((n : ℕ) → 0 < c → n + (times c xs + up_is c x) ≡ refs k c + (times c ys + up_is c y)
    → CountIs y n)
    → Counted (list_to (seg_to k c y) h ys)
both_keep k r c h x y xs ys at has else here e z pos is = let a =
    total_set (times e) k.lists h xs ys has in let b = total_set (up_is e) k.segs c x y at in ⊎_elim
    (λ (t : (e ≡ c) × (y ≡ z)).
    subst (λ (u : Seg). CountIs u (refs (list_to (seg_to k c y) h ys) e)) t.1
    (subst (λ (i : ℕ). CountIs y (refs (list_to (seg_to k c y) h ys) i)) (sym t.0)
    (here (refs (list_to (seg_to k c y) h ys) c) (subst (λ (i : ℕ). 0 < i) t.0 pos)
    (let a' = total_set (times c) k.lists h xs ys has in
    let b' = total_set (up_is c) k.segs c x y at in omega arith))))
    (λ (t : (e ≢ c) × (get_elem? k.segs e ≡ m.some z)). let q = else e t.0 pos in
    subst (CountIs z) (let p : refs k e ≡ refs (list_to (seg_to k c y) h ys) e = omega arith in
    p) (r e z pos t.1))
    (at_set k.segs c e y z is)

-- only the segment c changes
seg_keep : (k : Core) → Counted k → (c : ℕ) (x y : Seg) → At k c x → ((e : ℕ) → up_is e x ≡ 0)
    → ((e : ℕ) → up_is e y ≡ 0) → (0 < c → CountIs y (refs k c)) → Counted (seg_to k c y)
seg_keep k r c x y at none none' here e z pos is = let b = total_set (up_is e) k.segs c x y at in
    let n = none e in let n' = none' e in
    let same : refs k e ≡ refs (seg_to k c y) e = omega arith in ⊎_elim
    (λ (t : (e ≡ c) × (y ≡ z)). subst (CountIs z) same
    (subst (λ (u : Seg). CountIs u (refs k e)) t.1
    (subst (λ (i : ℕ). CountIs y (refs k i)) (sym t.0)
    (here (subst (λ (i : ℕ). 0 < i) t.0 pos)))))
    (λ (t : (e ≢ c) × (get_elem? k.segs e ≡ m.some z)). subst (CountIs z) same (r e z pos t.1))
    (at_set k.segs c e y z is)

pub counted_keeps : (k k' : Core) (s : CoreStep) → Counted k → Steps k s k' → Counted k'
counted_keeps k k' (claim h c) r t = subst Counted (sym t.4)
    (seg_keep k r c free (building h no_delta) t.1 (λ e. refl) (λ e. refl)
    (λ pos. r c free pos t.1))
counted_keeps k k' (put h c l w) r t = subst Counted (sym t.4)
    (seg_keep k r c (building h t.0) (building h (with_word t.0 l w)) t.2 (λ e. refl) (λ e. refl)
    (λ pos. r c (building h t.0) pos t.2))
counted_keeps k k' (publish h c) r t = let d = t.0 in let p : ℕ = t.1 in
    let old = r c (building h d) t.2 t.3 in
    let mine = total_one (times c) k.lists h (joined p []) t.4 in
    let j = times_joined c p [] t.2 in let one = is_at_same c in
    subst Counted (sym t.5) (both_keep k r c h (building h d) (live d p 2) (joined p [])
    (c ∷ c ∷ []) t.3 t.4
    (λ e ne pos. let q = times_joined e p [] pos in let o = is_at_other e c (λ z. ne (sym z)) in
    omega arith)
    (λ n pos e. (omega arith, omega arith)))
counted_keeps k k' (share h c) r t = let d = t.0 in let p : ℕ = t.1 in let n : ℕ = t.2 in
    let old = r c (live d p n) t.3 t.4 in let o0 = old.0 in let one = is_at_same c in
    subst Counted (sym t.6) (both_keep k r c h (live d p n) (live d p (n + 1)) (c ∷ []) (c ∷ c ∷ [])
    t.4 t.5
    (λ e ne pos. let o = is_at_other e c (λ z. ne (sym z)) in omega arith)
    (λ x pos e. (omega arith, omega arith)))
counted_keeps k k' (hand_on h c to) r t = subst Counted (sym t.5)
    (λ e z pos is. let a = total_set (times e) k.lists h (c ∷ c ∷ []) (c ∷ []) t.2 in
    let there : get_elem? (set k.lists h (c ∷ [])) to ≡ m.some [] =
    set_else k.lists h to (c ∷ []) t.1 ∙ t.3 in
    let b = total_set (times e) (set k.lists h (c ∷ [])) to [] (c ∷ []) there in
    subst (CountIs z) (let p : refs k e ≡ refs (list_to (list_to k h (c ∷ [])) to (c ∷ [])) e =
    omega arith in p) (r e z pos is))
counted_keeps k k' (release h c) r t = let d = t.0 in let p : ℕ = t.1 in let n : ℕ = t.2 in
    let xs : List ℕ = t.3 in let old = r c (live d p n) t.4 t.5 in let o0 = old.0 in
    let one = is_at_same c in
    let mine = total_one (times c) k.lists h (c ∷ xs) t.6 in ⊎_elim
    (λ (q : (n ≡ 1) × (k' ≡ list_to (seg_to k c free) h (joined p xs))). let q0 = q.0 in
    subst Counted (sym q.1) (both_keep k r c h (live d p n) free (c ∷ xs) (joined p xs) t.5 t.6
    (λ e ne pos. let j = times_joined e p xs pos in let o = is_at_other e c (λ z. ne (sym z)) in
    omega arith)
    (λ x pos e. let j = times_joined c p xs pos in omega arith)))
    (λ (q : (1 < n) × (k' ≡ list_to (seg_to k c (live d p (n - 1))) h xs)). let q0 = q.0 in
    subst Counted (sym q.1) (both_keep k r c h (live d p n) (live d p (n - 1)) (c ∷ xs) xs t.5
    t.6
    (λ e ne pos. let o = is_at_other e c (λ z. ne (sym z)) in omega arith)
    (λ x pos e. (omega arith, omega arith))))
    t.7
counted_keeps k k' (collapse h c) r t = let d = t.0 in let p : ℕ = t.1 in
    let old = r c (live d p 1) t.2 t.3 in let o0 = old.0 in let one = is_at_same c in
    subst Counted (sym t.5) (both_keep k r c h (live d p 1) free (c ∷ []) (joined p []) t.3 t.4
    (λ e ne pos. let j = times_joined e p [] pos in let o = is_at_other e c (λ z. ne (sym z)) in
    omega arith)
    (λ x pos e. let j = times_joined c p [] pos in omega arith))
