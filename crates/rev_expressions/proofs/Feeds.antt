-- The line feeds before a place, by a table of their places.
use Rattle.std.proofs.Common.{◌≡◌, ℕ, zero, suc, ◌+◌, ◌-◌, ◌<◌, ◌≤◌, ◌==◌, if◌then◌else◌, ltb, cond, Bool, true, false, List, [], ◌∷◌, ◌++◌, take, length, get_or, refl, sym, ap, ◌∙◌, subst, arith}
use Rattle.std.proofs.lemmas.List.{length-take}
use Rattle.std.proofs.Math.Seq.{take-suc}
use Rattle.std.proofs.lemmas.Bool.{ltb-true, ltb-false, lt-ltb, le-ltb}
use Rattle.std.proofs.lemmas.List.Sorted.{IsNonDecreasingBy-from_default}
use Rattle.std.proofs.lemmas.List.{take_all, get_or_default}
use Rattle.std.proofs.lemmas.List.Sums.{count_by_more_no, count_by_more_yes, sum_by-cons}
use Rattle.std.specs.List.{count_by}
use Rattle.std.specs.List.Sorted.{IsNonDecreasingBy, IsPartitionPoint}
use Rattle.rev_syntax.specs.Places.{line_of}
use Rattle.rev_expressions.specs.Source.{IsEdge, feeds_from}

-- a list whose first i elements pass, and no others
module _ (p : ℕ → Bool) (fs : List ℕ) (i : ℕ) (within : i ≤ length fs)
    (parts : IsPartitionPoint (λ y. p y ≡ true) (λ y. p y ≡ false) fs i) where
  upto : (n : ℕ) → n ≤ i → count_by p (take n fs) ≡ n
  upto zero le = refl
  upto (suc n) le =
      let one : n + 1 ≡ suc n = omega arith in
      subst (λ k. count_by p (take k fs) ≡ k) one
      (count_by_more_yes p fs n 0 (omega arith) (parts.0 n 0 (omega arith) (omega arith))
      ∙ ap (λ k. k + 1) (upto n (omega arith)))

  beyond : (n : ℕ) → i + n ≤ length fs → count_by p (take (i + n) fs) ≡ i
  beyond zero le = let none : i + 0 ≡ i = omega arith in ap (λ k. count_by p (take k fs)) none ∙ upto i (omega arith)
  beyond (suc n) le =
      let one : i + suc n ≡ (i + n) + 1 = omega arith in
      ap (λ k. count_by p (take k fs)) one
      ∙ count_by_more_no p fs (i + n) 0 (omega arith) (parts.1 (i + n) 0 (omega arith) (omega arith))
      ∙ beyond n (omega arith)

  pub part_is_count : count_by p fs ≡ i
  part_is_count =
      let whole : i + (length fs - i) ≡ length fs = omega arith in
      sym (ap (count_by p) (take_all (length fs) fs (omega arith))) ∙ ap (λ k. count_by p (take k fs)) (sym whole)
      ∙ beyond (length fs - i) (omega arith)

-- ---- one more byte

feeds_append : (base : ℕ) (xs : List ℕ) (b : ℕ)
    → feeds_from base (xs ++ b ∷ []) ≡ feeds_from base xs ++ (if b == 10 then (base + length xs) ∷ [] else [])
feeds_append base [] b = by_test (b == 10)
  where
    here : base ≡ base + 0
    here = omega arith

    by_test : (t : Bool) → (if t then base ∷ [] else []) ≡ (if t then (base + 0) ∷ [] else [])
    by_test true = ap (λ n. n ∷ []) here
    by_test false = refl
feeds_append base (x ∷ xs) b = by_test (x == 10) (feeds_append (base + 1) xs b)
  where
    moved : base + 1 + length xs ≡ base + suc (length xs)
    moved = omega arith

    by_test : (t : Bool)
        → feeds_from (base + 1) (xs ++ b ∷ [])
        ≡ feeds_from (base + 1) xs ++ (if b == 10 then (base + 1 + length xs) ∷ [] else [])
        → (if t then base ∷ feeds_from (base + 1) (xs ++ b ∷ []) else feeds_from (base + 1) (xs ++ b ∷ []))
        ≡ (if t then base ∷ feeds_from (base + 1) xs else feeds_from (base + 1) xs)
        ++ (if b == 10 then (base + suc (length xs)) ∷ [] else [])
    by_test true h =
        ap (λ l. base ∷ l) (h ∙ ap (λ n. feeds_from (base + 1) xs ++ (if b == 10 then n ∷ [] else [])) moved)
    by_test false h = h ∙ ap (λ n. feeds_from (base + 1) xs ++ (if b == 10 then n ∷ [] else [])) moved

pub feeds_more : (bs : List ℕ) (n : ℕ) → n < length bs
    → feeds_from 0 (take (n + 1) bs) ≡ feeds_from 0 (take n bs) ++ (if get_or bs n 0 == 10 then n ∷ [] else [])
feeds_more bs n lt =
    let one : n + 1 ≡ suc n = omega arith in
    let long : 0 + length (take n bs) ≡ n = omega (arith, length-take n bs) in
    ap (λ k. feeds_from 0 (take k bs)) one ∙ ap (feeds_from 0) (take-suc bs n 0 lt)
    ∙ feeds_append 0 (take n bs) (get_or bs n 0)
    ∙ ap (λ k. feeds_from 0 (take n bs) ++ (if get_or bs n 0 == 10 then k ∷ [] else [])) long

pub feeds_few : (base : ℕ) (bs : List ℕ) → length (feeds_from base bs) ≤ length bs
feeds_few base [] = omega arith
feeds_few base (b ∷ bs) = by_test (b == 10) (feeds_few (base + 1) bs)
  where
    by_test : (t : Bool) → length (feeds_from (base + 1) bs) ≤ length bs
        → length (if t then base ∷ feeds_from (base + 1) bs else feeds_from (base + 1) bs) ≤ suc (length bs)
    by_test true h = omega (arith, h)
    by_test false h = omega (arith, h)

-- ---- the table rises

pub feeds_from_on : (base : ℕ) (bs : List ℕ) (k : ℕ) → k < length (feeds_from base bs)
    → base ≤ get_or (feeds_from base bs) k 0
feeds_from_on base [] k lt = absurd (omega arith)
feeds_from_on base (b ∷ bs) k lt = by_test (b == 10) k lt (λ k lt. feeds_from_on (base + 1) bs k lt)
  where
    by_test : (t : Bool) (k : ℕ) → k < length (if t then base ∷ feeds_from (base + 1) bs else feeds_from (base + 1) bs)
        → ((k : ℕ) → k < length (feeds_from (base + 1) bs) → base + 1 ≤ get_or (feeds_from (base + 1) bs) k 0)
        → base ≤ get_or (if t then base ∷ feeds_from (base + 1) bs else feeds_from (base + 1) bs) k 0
    by_test true zero lt h = omega arith
    by_test true (suc k) lt h = omega (arith, h k (omega arith))
    by_test false k lt h = omega (arith, h k lt)

feeds_rise : (base : ℕ) (bs : List ℕ) (i j : ℕ) → i ≤ j → j < length (feeds_from base bs)
    → get_or (feeds_from base bs) i 0 ≤ get_or (feeds_from base bs) j 0
feeds_rise base [] i j le lt = absurd (omega arith)
feeds_rise base (b ∷ bs) i j le lt =
    by_test (b == 10) i j le lt (λ i j le lt. feeds_rise (base + 1) bs i j le lt)
    (λ k lt. feeds_from_on (base + 1) bs k lt)
  where
    by_test : (t : Bool) (i j : ℕ) → i ≤ j
        → j < length (if t then base ∷ feeds_from (base + 1) bs else feeds_from (base + 1) bs)
        → ((i j : ℕ) → i ≤ j → j < length (feeds_from (base + 1) bs)
        → get_or (feeds_from (base + 1) bs) i 0 ≤ get_or (feeds_from (base + 1) bs) j 0)
        → ((k : ℕ) → k < length (feeds_from (base + 1) bs) → base + 1 ≤ get_or (feeds_from (base + 1) bs) k 0)
        → get_or (if t then base ∷ feeds_from (base + 1) bs else feeds_from (base + 1) bs) i 0
        ≤ get_or (if t then base ∷ feeds_from (base + 1) bs else feeds_from (base + 1) bs) j 0
    by_test true zero zero le lt h g = omega arith
    by_test true zero (suc j) le lt h g = omega (arith, g j (omega arith))
    by_test true (suc i) zero le lt h g = absurd (omega arith)
    by_test true (suc i) (suc j) le lt h g = h i j (omega arith) (omega arith)
    by_test false i j le lt h g = h i j le lt

pub feeds_sorted : (bs : List ℕ) → IsNonDecreasingBy (λ f. f) (feeds_from 0 bs)
feeds_sorted bs = IsNonDecreasingBy-from_default (λ f. f) (feeds_from 0 bs) 0 (feeds_rise 0 bs)

-- ---- the line feeds before a place are those of the table that stand before it

count_step : (at base : ℕ) (b : ℕ) (bs : List ℕ) (lower : Bool) → ltb base at ≡ lower
    → count_by (λ f. ltb f at) (feeds_from (base + 1) bs) ≡ count_by (λ b. b == 10) (take (at - (base + 1)) bs)
    → count_by (λ f. ltb f at) (feeds_from base (b ∷ bs)) ≡ count_by (λ b. b == 10) (take (at - base) (b ∷ bs))
count_step at base b bs true e h =
    by_test (b == 10) ∙ sym (sum_by-cons (λ b. cond (b == 10) 1 0) b (take (at - (base + 1)) bs))
    ∙ ap (λ n. count_by (λ b. b == 10) (take n (b ∷ bs))) (sym next_one)
  where
    next_one : at - base ≡ suc (at - (base + 1))
    next_one = let lt = ltb-true base at e in omega (arith, lt)

    by_test : (t : Bool)
        → count_by (λ f. ltb f at) (if t then base ∷ feeds_from (base + 1) bs else feeds_from (base + 1) bs)
        ≡ cond t 1 0 + count_by (λ b. b == 10) (take (at - (base + 1)) bs)
    by_test true =
        sum_by-cons (λ f. cond (ltb f at) 1 0) base (feeds_from (base + 1) bs)
        ∙ ap (λ t. cond t 1 0 + count_by (λ f. ltb f at) (feeds_from (base + 1) bs)) e ∙ ap (λ n. 1 + n) h
    by_test false = h ∙ none
      where
        none : count_by (λ b. b == 10) (take (at - (base + 1)) bs)
            ≡ 0 + count_by (λ b. b == 10) (take (at - (base + 1)) bs)
        none = omega arith
count_step at base b bs false e h =
    by_test (b == 10) ∙ sym (ap (λ n. count_by (λ b. b == 10) (take n (b ∷ bs))) none_here)
  where
    none_here : at - base ≡ 0
    none_here = let le = ltb-false base at e in omega (arith, le)

    none_next : at - (base + 1) ≡ 0
    none_next = let le = ltb-false base at e in omega (arith, le)

    by_test : (t : Bool)
        → count_by (λ f. ltb f at) (if t then base ∷ feeds_from (base + 1) bs else feeds_from (base + 1) bs) ≡ 0
    by_test true =
        sum_by-cons (λ f. cond (ltb f at) 1 0) base (feeds_from (base + 1) bs)
        ∙ ap (λ t. cond t 1 0 + count_by (λ f. ltb f at) (feeds_from (base + 1) bs)) e
        ∙ ap (λ n. 0 + n) (h ∙ ap (λ n. count_by (λ b. b == 10) (take n bs)) none_next)
    by_test false = h ∙ ap (λ n. count_by (λ b. b == 10) (take n bs)) none_next

pub feeds_counted : (at base : ℕ) (bs : List ℕ)
    → count_by (λ f. ltb f at) (feeds_from base bs) ≡ count_by (λ b. b == 10) (take (at - base) bs)
feeds_counted at base [] = take_nothing (at - base)
  where
    take_nothing : (n : ℕ) → 0 ≡ count_by (λ b. b == 10) (take n [])
    take_nothing zero = refl
    take_nothing (suc n) = refl
feeds_counted at base (b ∷ bs) = count_step at base b bs (ltb base at) refl (feeds_counted at (base + 1) bs)

-- the line of a place, by how many places of the table stand before it
pub line_by_table : (at : ℕ) (bs fs : List ℕ) (i : ℕ) → fs ≡ feeds_from 0 bs → i ≤ length fs
    → IsPartitionPoint (λ y. ltb y at ≡ true) (λ y. ltb y at ≡ false) fs i → 1 + i ≡ line_of bs at
line_by_table at bs fs i e le parts =
    let whole : at - 0 ≡ at = omega arith in
    ap (λ n. 1 + n) (sym (part_is_count (λ f. ltb f at) fs i le parts) ∙ ap (count_by (λ f. ltb f at)) e
    ∙ feeds_counted at 0 bs ∙ ap (λ n. count_by (λ b. b == 10) (take n bs)) whole)

-- in places that rise, by the two beside it
edge_parts : (fs : List ℕ) (i at : ℕ) → IsNonDecreasingBy (λ f. f) fs → IsEdge fs i at
    → IsPartitionPoint (λ y. ltb y at ≡ true) (λ y. ltb y at ≡ false) fs i
edge_parts fs i at up e = (
  λ k d low high.
      let within : i ≤ length fs = e.within in
      let last : get_or fs (i - 1) d < at =
      subst (λ (x : ℕ). x < at) (get_or_default fs (i - 1) 0 d (omega arith)) (e.before (omega arith)) in
      let below : get_or fs k d ≤ get_or fs (i - 1) d = up k (i - 1) d (omega arith) (omega arith) in
      lt-ltb (get_or fs k d) at (omega arith),
  λ k d low high.
      let next : at ≤ get_or fs i d =
      subst (λ (x : ℕ). at ≤ x) (get_or_default fs i 0 d (omega arith)) (e.behind (omega arith)) in
      let above : get_or fs i d ≤ get_or fs k d = up i k d low high in
      le-ltb (get_or fs k d) at (omega arith),
)

-- the line of a place, by how many places of the table stand before it, as the two beside say
pub line_by_edge : (at : ℕ) (bs fs : List ℕ) (i : ℕ) → fs ≡ feeds_from 0 bs → IsEdge fs i at → 1 + i ≡ line_of bs at
line_by_edge at bs fs i e edge =
    line_by_table at bs fs i e edge.within
    (edge_parts fs i at (subst (IsNonDecreasingBy (λ f. f)) (sym e) (feeds_sorted bs)) edge)

-- and they are few, where the text is
pub few_before : (at : ℕ) (bs fs : List ℕ) (i : ℕ) → fs ≡ feeds_from 0 bs → IsEdge fs i at → length bs < 4294967295
    → i < 4294967295
few_before at bs fs i e edge small =
    let within : i ≤ length fs = edge.within in
    let table : length fs ≡ length (feeds_from 0 bs) = ap length e in
    let few_feeds : length (feeds_from 0 bs) ≤ length bs = feeds_few 0 bs in
    omega arith
