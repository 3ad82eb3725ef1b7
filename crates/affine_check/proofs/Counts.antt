-- How many live locals hold the handle of a revision.
use Rattle.std.proofs.Common.{◌≡◌, ◌∙◌, ℕ, ◌+◌, ◌≤◌, Bool, true, false, cond, List, [], ◌∷◌, Some, None, refl, sym, ap, arith, le_refl, true≢false}
use Rattle.rev_num.specs.Path.{Path}
use Rattle.rev_num.specs.declared.value.Value.{Value}
use Rattle.rev_syntax.proofs.Lists.{same-self}
use Rattle.name_tables.specs.Names.{Name, same}
use Rattle.name_tables.specs.Table.{Table, find}
use Rattle.name_tables.proofs.Tables.{same_equal}
use Rattle.revision_calculus.specs.Evaluation.{with_local}
use Rattle.revision_calculus.specs.Step.{locals_of}
use Rattle.affine_check.specs.Live.{or, without}
use Rattle.affine_check.specs.Owned.{hit, count}

abbrev pub hits : List Value → Path → ℕ
hits [] q = 0
hits (x ∷ xs) q = hit x q + hits xs q

-- ---- sets of names

abbrev pub Sub : (Name → Bool) → (Name → Bool) → Type 0
Sub a b = (n : Name) → a n ≡ true → b n ≡ true

pub or_left : (a b : Bool) → a ≡ true → or a b ≡ true
or_left true b e = refl
or_left false b e = absurd (true≢false (sym e))

pub or_right : (a b : Bool) → b ≡ true → or a b ≡ true
or_right true b e = refl
or_right false b e = e

pub not_in : (m n : Name) (a : Bool) → same n m ≡ false → cond (same n m) false a ≡ a
not_in m n a e = ap (λ d. cond d false a) e

pub without_sub : (a b : Name → Bool) (m : Name) → Sub a b → Sub (without a m) (without b m)
without_sub a b m h n e = by (same n m) e
  where
    by : (d : Bool) → cond d false (a n) ≡ true → cond d false (b n) ≡ true
    by true q = q
    by false q = h n q

cond_less : (a b : Bool) (x : ℕ) → (a ≡ true → b ≡ true) → cond a x 0 ≤ cond b x 0
cond_less true true x h = le_refl x
cond_less true false x h = absurd (true≢false (sym (h refl)))
cond_less false true x h = omega arith
cond_less false false x h = omega arith

cond_most : (a : Bool) (x : ℕ) → cond a x 0 ≤ x
cond_most true x = le_refl x
cond_most false x = omega arith

pub count_sub : (a b : Name → Bool) (es : Table Value) (q : Path) → Sub a b → count a es q ≤ count b es q
count_sub a b [] q h = omega arith
count_sub a b (e ∷ es) q h =
    let first = cond_less (a e.0) (b e.0) (hit e.1 q) (h e.0) in
    let rest = count_sub (without a e.0) (without b e.0) es q (without_sub a b e.0 h) in
    omega (arith, first, rest)

-- ---- a name apart

-- a name that is used, and is not live after that
pub count_use : (b : Name → Bool) (w : Name) (x : Value) (es : Table Value) (q : Path) → b w ≡ false
    → find w es ≡ Some x → hit x q + count b es q ≤ count (λ n. or (same n w) (b n)) es q
count_use b w x [] q h found = absurd cc
count_use b w x (e ∷ es) q h found = by (λ a g f. count_use a w x es q g f) (same w e.0) refl found
  where
    c : Name → Bool
    c n = or (same n w) (b n)

    by : ((a : Name → Bool) → a w ≡ false → find w es ≡ Some x
        → hit x q + count a es q ≤ count (λ n. or (same n w) (a n)) es q)
        → (d : Bool) → same w e.0 ≡ d → cond d (Some e.1) (find w es) ≡ Some x
        → hit x q + count b (e ∷ es) q ≤ count c (e ∷ es) q
    by later true s f =
        let is : e.1 ≡ x = cc in
        let name : w ≡ e.0 = same_equal w e.0 s in
        let old : b e.0 ≡ false = ap b (sym name) ∙ h in
        let new : c e.0 ≡ true = ap (λ m. or (same m w) (b m)) (sym name) ∙ or_left (same w w) (b w) (same-self w) in
        let p : cond (b e.0) (hit e.1 q) 0 ≡ 0 = ap (λ d. cond d (hit e.1 q) 0) old in
        let r : cond (c e.0) (hit e.1 q) 0 ≡ hit x q = ap (λ d. cond d (hit e.1 q) 0) new ∙ ap (λ y. hit y q) is in
        let rest =
        count_sub (without b e.0) (without c e.0) es q (without_sub b c e.0 (λ n i. or_right (same n w) (b n) i)) in
        omega (arith, p, r, rest)
    by later false s f =
        let first = cond_less (b e.0) (c e.0) (hit e.1 q) (λ i. or_right (same e.0 w) (b e.0) i) in
        let gone : without b e.0 w ≡ false = not_in e.0 w (b w) s ∙ h in
        let rest = later (without b e.0) gone f in
        let wide = count_sub (λ n. or (same n w) (without b e.0 n)) (without c e.0) es q swap in
        omega (arith, first, rest, wide)
      where
        swap : Sub (λ n. or (same n w) (without b e.0 n)) (without c e.0)
        swap n i = on (same n e.0) refl (same n w) refl i
          where
            on : (d : Bool) → same n e.0 ≡ d → (m : Bool) → same n w ≡ m → or m (cond d false (b n)) ≡ true
                → cond d false (or m (b n)) ≡ true
            on true p true o j = absurd (true≢false (sym p ∙ ap (λ y. same y e.0) (same_equal n w o) ∙ s))
            on true p false o j = j
            on false p m o j = j

pub other_way : (a b : Name) → same a b ≡ false → same b a ≡ false
other_way a b e = by (same b a) refl
  where
    by : (d : Bool) → same b a ≡ d → d ≡ false
    by true p = absurd (true≢false (sym (same-self a) ∙ ap (λ y. same a y) (sym (same_equal b a p)) ∙ e))
    by false p = refl

swap_without : (b : Name → Bool) (m w : Name) → Sub (without (without b m) w) (without (without b w) m)
swap_without b m w n i = by (same n w) (same n m) i
  where
    by : (d e : Bool) → cond d false (cond e false (b n)) ≡ true → cond e false (cond d false (b n)) ≡ true
    by true e j = absurd (true≢false (sym j))
    by false true j = j
    by false false j = j

-- a name that is not there
pub count_absent : (b : Name → Bool) (w : Name) (es : Table Value) (q : Path) → find w es ≡ None
    → count b es q ≤ count (without b w) es q
count_absent b w [] q found = omega arith
count_absent b w (e ∷ es) q found = by (λ a f. count_absent a w es q f) (same w e.0) refl found
  where
    by : ((a : Name → Bool) → find w es ≡ None → count a es q ≤ count (without a w) es q)
        → (d : Bool) → same w e.0 ≡ d → cond d (Some e.1) (find w es) ≡ None
        → count b (e ∷ es) q ≤ count (without b w) (e ∷ es) q
    by later true s f = absurd cc
    by later false s f =
        let first =
        cond_less (b e.0) (without b w e.0) (hit e.1 q) (λ i. not_in w e.0 (b e.0) (other_way w e.0 s) ∙ i) in
        let rest = later (without b e.0) f in
        let wide = count_sub (without (without b e.0) w) (without (without b w) e.0) es q (swap_without b e.0 w) in
        omega (arith, first, rest, wide)

-- a name that gets a value
pub count_set : (b : Name → Bool) (w : Name) (x : Value) (es : Table Value) (q : Path)
    → count b (with_local es w x) q ≤ hit x q + count (without b w) es q
count_set b w x [] q = let most = cond_most (b w) (hit x q) in omega (arith, most)
count_set b w x (e ∷ es) q = by (λ a. count_set a w x es q) (same w e.0) refl
  where
    by : ((a : Name → Bool) → count a (with_local es w x) q ≤ hit x q + count (without a w) es q)
        → (d : Bool) → same w e.0 ≡ d
        → count b (cond d ((e.0, x) ∷ es) (e ∷ with_local es w x)) q ≤ hit x q + count (without b w) (e ∷ es) q
    by later true s =
        let first = cond_most (b e.0) (hit x q) in
        let wide = count_sub (without b e.0) (without (without b w) e.0) es q same_sub in
        omega (arith, first, wide)
      where
        same_sub : Sub (without b e.0) (without (without b w) e.0)
        same_sub n i = on (same n e.0) refl i
          where
            on : (f : Bool) → same n e.0 ≡ f → cond f false (b n) ≡ true
                → cond f false (cond (same n w) false (b n)) ≡ true
            on true p j = j
            on false p j = ap (λ y. cond (same n y) false (b n)) (same_equal w e.0 s) ∙ not_in e.0 n (b n) p ∙ j
    by later false s =
        let first =
        cond_less (b e.0) (without b w e.0) (hit e.1 q) (λ i. not_in w e.0 (b e.0) (other_way w e.0 s) ∙ i) in
        let rest = later (without b e.0) in
        let wide = count_sub (without (without b e.0) w) (without (without b w) e.0) es q (swap_without b e.0 w) in
        omega (arith, first, rest, wide)

-- parameters
pub count_params : (b : Name → Bool) (ps : List Name) (xs : List Value) (q : Path)
    → count b (locals_of ps xs) q ≤ hits xs q
count_params b [] xs q = omega arith
count_params b (p ∷ ps) [] q = omega arith
count_params b (p ∷ ps) (x ∷ xs) q =
    let most = cond_most (b p) (hit x q) in
    let rest = count_params (without b p) ps xs q in
    omega (arith, most, rest)
