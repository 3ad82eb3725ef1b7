-- What a round or an entry at the end makes of a schedule's items.
use Rattle.std.proofs.Common.{◌≡◌, ◌⊎◌, inl, inr, ℕ, suc, ◌+◌, List, [], ◌∷◌, ◌++◌, length, sym, refl, ap, ◌∙◌, arith, append_assoc, Option, Some, None}
use Rattle.hub_core.specs.Rounds.{Item, One, Born, Loop, Round, flat, born, turn_part, round_part, IsRound, children, ones, stamped, add_last, add_birth, births}

pub flat_loop : (is : List Item) (m k : ℕ) → ((flat is ++ m ∷ []) ++ k ∷ []) ++ k ∷ [] ≡ flat (is ++ Loop m k ∷ [])
flat_loop [] m k = refl
flat_loop (One j ∷ is) m k = ap (λ l. j ∷ l) (flat_loop is m k)
flat_loop (Born j ∷ is) m k = ap (λ l. j ∷ l) (flat_loop is m k)
flat_loop (Loop i j ∷ is) m k = ap (λ l. i ∷ j ∷ j ∷ l) (flat_loop is m k)

pub flat_ones : (is : List Item) (ks : List ℕ) → flat is ++ ks ≡ flat (is ++ ones ks)
flat_ones [] ks = by ks
  where
    by : (ks : List ℕ) → ks ≡ flat (ones ks)
    by [] = refl
    by (k ∷ ks) = ap (λ l. k ∷ l) (by ks)
flat_ones (One j ∷ is) ks = ap (λ l. j ∷ l) (flat_ones is ks)
flat_ones (Born j ∷ is) ks = ap (λ l. j ∷ l) (flat_ones is ks)
flat_ones (Loop i j ∷ is) ks = ap (λ l. i ∷ j ∷ j ∷ l) (flat_ones is ks)

pub flat_born : (is : List Item) (k : ℕ) → flat is ++ k ∷ [] ≡ flat (is ++ Born k ∷ [])
flat_born [] k = refl
flat_born (One j ∷ is) k = ap (λ l. j ∷ l) (flat_born is k)
flat_born (Born j ∷ is) k = ap (λ l. j ∷ l) (flat_born is k)
flat_born (Loop i j ∷ is) k = ap (λ l. i ∷ j ∷ j ∷ l) (flat_born is k)

pub born_loop : (is : List Item) (m k : ℕ) → born is ++ k ∷ [] ≡ born (is ++ Loop m k ∷ [])
born_loop [] m k = refl
born_loop (One j ∷ is) m k = born_loop is m k
born_loop (Born j ∷ is) m k = ap (λ l. j ∷ l) (born_loop is m k)
born_loop (Loop i j ∷ is) m k = ap (λ l. j ∷ l) (born_loop is m k)

pub born_ones : (is : List Item) (ks : List ℕ) → born is ≡ born (is ++ ones ks)
born_ones [] ks = by ks
  where
    by : (ks : List ℕ) → [] ≡ born (ones ks)
    by [] = refl
    by (k ∷ ks) = by ks
born_ones (One j ∷ is) ks = born_ones is ks
born_ones (Born j ∷ is) ks = ap (λ l. j ∷ l) (born_ones is ks)
born_ones (Loop i j ∷ is) ks = ap (λ l. j ∷ l) (born_ones is ks)

pub born_born : (is : List Item) (k : ℕ) → born is ++ k ∷ [] ≡ born (is ++ Born k ∷ [])
born_born [] k = refl
born_born (One j ∷ is) k = born_born is k
born_born (Born j ∷ is) k = ap (λ l. j ∷ l) (born_born is k)
born_born (Loop i j ∷ is) k = ap (λ l. j ∷ l) (born_born is k)

-- the turns entered nothing more
pub turn_loop : (n : ℕ) (is : List Item) (m k : ℕ) → turn_part n (is ++ Loop m k ∷ []) ≡ turn_part n is
turn_loop n [] m k = refl
turn_loop n (One j ∷ is) m k = ap (λ l. (n, j) ∷ l) (turn_loop n is m k)
turn_loop n (Born j ∷ is) m k = ap (λ l. (n, j) ∷ l) (turn_loop (suc n) is m k)
turn_loop n (Loop i j ∷ is) m k = turn_loop (suc n) is m k

pub turn_ones : (n : ℕ) (is : List Item) (ks : List ℕ)
    → turn_part n (is ++ ones ks) ≡ turn_part n is ++ stamped (n + length (born is)) ks
turn_ones n [] ks = let e : n ≡ n + 0 = omega arith in by ks ∙ ap (λ (i : ℕ). stamped i ks) e
  where
    by : (ks : List ℕ) → turn_part n (ones ks) ≡ stamped n ks
    by [] = refl
    by (k ∷ ks) = ap (λ l. (n, k) ∷ l) (by ks)
turn_ones n (One j ∷ is) ks = ap (λ l. (n, j) ∷ l) (turn_ones n is ks)
turn_ones n (Born j ∷ is) ks =
    let e : suc n + length (born is) ≡ n + suc (length (born is)) = omega arith in
    ap (λ l. (n, j) ∷ l) (turn_ones (suc n) is ks ∙ ap (λ (i : ℕ). turn_part (suc n) is ++ stamped i ks) e)
turn_ones n (Loop i j ∷ is) ks =
    let e : suc n + length (born is) ≡ n + suc (length (born is)) = omega arith in
    turn_ones (suc n) is ks ∙ ap (λ (x : ℕ). turn_part (suc n) is ++ stamped x ks) e

pub turn_born : (n : ℕ) (is : List Item) (k : ℕ)
    → turn_part n (is ++ Born k ∷ []) ≡ turn_part n is ++ (n + length (born is), k) ∷ []
turn_born n [] k = let e : n ≡ n + 0 = omega arith in ap (λ (i : ℕ). (i, k) ∷ []) e
turn_born n (One j ∷ is) k = ap (λ l. (n, j) ∷ l) (turn_born n is k)
turn_born n (Born j ∷ is) k =
    let e : suc n + length (born is) ≡ n + suc (length (born is)) = omega arith in
    ap (λ l. (n, j) ∷ l) (turn_born (suc n) is k ∙ ap (λ (i : ℕ). turn_part (suc n) is ++ (i, k) ∷ []) e)
turn_born n (Loop i j ∷ is) k =
    let e : suc n + length (born is) ≡ n + suc (length (born is)) = omega arith in
    turn_born (suc n) is k ∙ ap (λ (x : ℕ). turn_part (suc n) is ++ (x, k) ∷ []) e

-- the child of a round has the next number
pub round_loop : (n : ℕ) (is : List Item) (m k : ℕ)
    → round_part n (is ++ Loop m k ∷ []) ≡ round_part n is ++ (n + length (born is), m, k) ∷ []
round_loop n [] m k = let e : n ≡ n + 0 = omega arith in ap (λ (i : ℕ). (i, m, k) ∷ []) e
round_loop n (One j ∷ is) m k = round_loop n is m k
round_loop n (Born j ∷ is) m k =
    let e : suc n + length (born is) ≡ n + suc (length (born is)) = omega arith in
    round_loop (suc n) is m k ∙ ap (λ (i : ℕ). round_part (suc n) is ++ (i, m, k) ∷ []) e
round_loop n (Loop i j ∷ is) m k =
    let e : suc n + length (born is) ≡ n + suc (length (born is)) = omega arith in
    ap (λ l. (n, i, j) ∷ l) (round_loop (suc n) is m k ∙ ap (λ (x : ℕ). round_part (suc n) is ++ (x, m, k) ∷ []) e)

pub round_ones : (n : ℕ) (is : List Item) (ks : List ℕ) → round_part n (is ++ ones ks) ≡ round_part n is
round_ones n [] ks = by ks
  where
    by : (ks : List ℕ) → round_part n (ones ks) ≡ []
    by [] = refl
    by (k ∷ ks) = by ks
round_ones n (One j ∷ is) ks = round_ones n is ks
round_ones n (Born j ∷ is) ks = round_ones (suc n) is ks
round_ones n (Loop i j ∷ is) ks = ap (λ l. (n, i, j) ∷ l) (round_ones (suc n) is ks)

pub round_born : (n : ℕ) (is : List Item) (k : ℕ) → round_part n (is ++ Born k ∷ []) ≡ round_part n is
round_born n [] k = refl
round_born n (One j ∷ is) k = round_born n is k
round_born n (Born j ∷ is) k = round_born (suc n) is k
round_born n (Loop i j ∷ is) k = ap (λ l. (n, i, j) ∷ l) (round_born (suc n) is k)

pub is_round_more : (rs : List Round) (r : Round) (n m k : ℕ) → IsRound rs n m k → IsRound (rs ++ r ∷ []) n m k
is_round_more [] r n m k h = absurd h
is_round_more (x ∷ rs) r n m k (inl h) = inl h
is_round_more (x ∷ rs) r n m k (inr h) = inr (is_round_more rs r n m k h)

pub is_round_last : (rs : List Round) (n m k : ℕ) → IsRound (rs ++ (n, m, k) ∷ []) n m k
is_round_last [] n m k = inl (refl, refl, refl)
is_round_last (x ∷ rs) n m k = inr (is_round_last rs n m k)

pub is_round_snoc : (rs : List Round) (n m k i j l : ℕ) → IsRound (rs ++ (i, j, l) ∷ []) n m k
    → IsRound rs n m k ⊎ ((i ≡ n) × (j ≡ m) × (l ≡ k))
is_round_snoc [] n m k i j l (inl h) = inr h
is_round_snoc [] n m k i j l (inr h) = absurd h
is_round_snoc (x ∷ rs) n m k i j l (inl h) = inl (inl h)
is_round_snoc (x ∷ rs) n m k i j l (inr h) = by (is_round_snoc rs n m k i j l h)
  where
    by : IsRound rs n m k ⊎ ((i ≡ n) × (j ≡ m) × (l ≡ k)) → IsRound (x ∷ rs) n m k ⊎ ((i ≡ n) × (j ≡ m) × (l ≡ k))
    by (inl q) = inl (inr q)
    by (inr q) = inr q

pub children_more : (rs : List Round) (r : Round) → children (rs ++ r ∷ []) ≡ children rs ++ r.0 ∷ []
children_more [] r = refl
children_more (x ∷ rs) r = ap (λ l. x.0 ∷ l) (children_more rs r)

-- ---- entries of one turn, and a fork behind them

pub last_length : (b : Option ℕ) (ks : List ℕ) → length (add_last b ks) ≡ length ks + births b
last_length None ks = omega arith
last_length (Some k) [] = omega arith
last_length (Some k) (j ∷ ks) = let r = last_length (Some k) ks in omega arith

append_last : (b : Option ℕ) (xs ys : List ℕ) → add_last b (xs ++ ys) ≡ xs ++ add_last b ys
append_last None xs ys = refl
append_last (Some k) xs ys = append_assoc xs ys (k ∷ [])

flat_add : (b : Option ℕ) (is : List Item) → add_last b (flat is) ≡ flat (add_birth b is)
flat_add None is = refl
flat_add (Some k) is = flat_born is k

pub flat_turn : (b : Option ℕ) (is : List Item) (ks : List ℕ)
    → flat is ++ add_last b ks ≡ flat (add_birth b (is ++ ones ks))
flat_turn b is ks = sym (append_last b (flat is) ks) ∙ (ap (add_last b) (flat_ones is ks) ∙ flat_add b (is ++ ones ks))

born_add : (b : Option ℕ) (is : List Item) → add_last b (born is) ≡ born (add_birth b is)
born_add None is = refl
born_add (Some k) is = born_born is k

pub born_turn : (b : Option ℕ) (is : List Item) (ks : List ℕ)
    → add_last b (0 ∷ born is) ≡ 0 ∷ born (add_birth b (is ++ ones ks))
born_turn b is ks =
    append_last b (0 ∷ []) (born is)
    ∙ ap (λ l. 0 ∷ l) (ap (add_last b) (born_ones is ks) ∙ born_add b (is ++ ones ks))

stamped_last : (n : ℕ) (ks : List ℕ) (k : ℕ) → stamped n ks ++ (n, k) ∷ [] ≡ stamped n (ks ++ k ∷ [])
stamped_last n [] k = refl
stamped_last n (j ∷ ks) k = ap (λ l. (n, j) ∷ l) (stamped_last n ks k)

pub turn_turn : (b : Option ℕ) (n : ℕ) (is : List Item) (ks : List ℕ)
    → turn_part n (add_birth b (is ++ ones ks)) ≡ turn_part n is ++ stamped (n + length (born is)) (add_last b ks)
turn_turn None n is ks = turn_ones n is ks
turn_turn (Some k) n is ks =
    let m : ℕ = n + length (born is) in
    turn_born n (is ++ ones ks) k
    ∙ (ap (λ (l : List ℕ). turn_part n (is ++ ones ks) ++ (n + length l, k) ∷ []) (sym (born_ones is ks))
    ∙ (ap (λ l. l ++ (m, k) ∷ []) (turn_ones n is ks)
    ∙ (append_assoc (turn_part n is) (stamped m ks) ((m, k) ∷ [])
    ∙ ap (λ l. turn_part n is ++ l) (stamped_last m ks k))))

pub round_turn : (b : Option ℕ) (n : ℕ) (is : List Item) (ks : List ℕ)
    → round_part n (add_birth b (is ++ ones ks)) ≡ round_part n is
round_turn None n is ks = round_ones n is ks
round_turn (Some k) n is ks = round_born n (is ++ ones ks) k ∙ round_ones n is ks
