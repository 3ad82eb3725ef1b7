-- What the turns entered, with counts, and the rounds by number make up the schedule.
use Rattle.std.proofs.Common.{◌≡◌, ◌≢◌, inl, inr, ⊎_elim, ℕ, zero, suc, ◌≤◌, Bool, cond, List, [], ◌∷◌, ◌++◌, length, refl, ap, ◌∙◌, arith, eq-eqb, ne_eqb, Option, Some, None}
use Rattle.hub_core.specs.Rounds.{Item, One, Born, Loop, flat, born, turn_part, round_part, IsRound, first_at, behind_at, looped_by, weave, AreRounds}

-- each count is at least this
abbrev pub AreFrom : ℕ → List (ℕ × ℕ) → Type 0
AreFrom n [] = Unit {0}
AreFrom n (x ∷ xs) = (n ≤ x.0) × AreFrom n xs

from_less : (n : ℕ) (xs : List (ℕ × ℕ)) → AreFrom (suc n) xs → AreFrom n xs
from_less n [] h = tt
from_less n (x ∷ xs) h = (let a = h.0 in omega arith, from_less n xs h.1)

pub turn_from : (n : ℕ) (is : List Item) → AreFrom n (turn_part n is)
turn_from n [] = tt
turn_from n (One k ∷ is) = (omega arith, turn_from n is)
turn_from n (Born k ∷ is) = (omega arith, from_less n (turn_part (suc n) is) (turn_from (suc n) is))
turn_from n (Loop m k ∷ is) = from_less n (turn_part (suc n) is) (turn_from (suc n) is)

pub first_here : (n k : ℕ) (xs : List (ℕ × ℕ)) → first_at n ((n, k) ∷ xs) ≡ k ∷ first_at n xs
first_here n k xs = ap (λ (b : Bool). cond b (k ∷ first_at n xs) []) (eq-eqb n n refl)

pub behind_here : (n k : ℕ) (xs : List (ℕ × ℕ)) → behind_at n ((n, k) ∷ xs) ≡ behind_at n xs
behind_here n k xs = ap (λ (b : Bool). cond b (behind_at n xs) ((n, k) ∷ xs)) (eq-eqb n n refl)

pub first_later : (n : ℕ) (xs : List (ℕ × ℕ)) → AreFrom (suc n) xs → first_at n xs ≡ []
first_later n [] h = refl
first_later n (x ∷ xs) h =
    let a = h.0 in
    let ne : x.0 ≢ n = λ q. omega arith in
    ap (λ (b : Bool). cond b (x.1 ∷ first_at n xs) []) (ne_eqb x.0 n ne)

pub behind_later : (n : ℕ) (xs : List (ℕ × ℕ)) → AreFrom (suc n) xs → behind_at n xs ≡ xs
behind_later n [] h = refl
behind_later n (x ∷ xs) h =
    let a = h.0 in
    let ne : x.0 ≢ n = λ q. omega arith in
    ap (λ (b : Bool). cond b (behind_at n xs) (x ∷ xs)) (ne_eqb x.0 n ne)

weave_one : (c n k : ℕ) (es : List (ℕ × ℕ)) (look : ℕ → Option (ℕ × ℕ))
    → weave c n ((n, k) ∷ es) look ≡ k ∷ weave c n es look
weave_one zero n k es look = refl
weave_one (suc c) n k es look =
    ap (λ (z : List ℕ × List (ℕ × ℕ)). (z.0 ++ looped_by (look n)) ++ weave c (suc n) z.1 look)
    (λ i. (first_here n k es i, behind_here n k es i))

-- a round of a later number
pub later : (n : ℕ) (is : List Item) (i m k : ℕ) → IsRound (round_part n is) i m k → n ≤ i
later n [] i m k h = absurd h
later n (One j ∷ is) i m k h = later n is i m k h
later n (Born j ∷ is) i m k h = let r = later (suc n) is i m k h in omega arith
later n (Loop x y ∷ is) i m k (inl h) = let a = h.0 in omega arith
later n (Loop x y ∷ is) i m k (inr h) = let r = later (suc n) is i m k h in omega arith

pub born_next : (n j : ℕ) (is : List Item) (look : ℕ → Option (ℕ × ℕ)) → AreRounds n (Born j ∷ is) look
    → AreRounds (suc n) is look
born_next n j is look are =
    record { there = are.there; only = λ i x b e. are.only i x (omega arith) e }

pub loop_next : (n m k : ℕ) (is : List Item) (look : ℕ → Option (ℕ × ℕ)) → AreRounds n (Loop m k ∷ is) look
    → AreRounds (suc n) is look
loop_next n m k is look are = record {
  there = λ i x y h. are.there i x y (inr h);
  only = λ i x b e. by i b (are.only i x (omega arith) e);
}
  where
    by : (i : ℕ) → suc n ≤ i → (x : ℕ) × (y : ℕ) × IsRound (round_part n (Loop m k ∷ is)) i x y
        → (x : ℕ) × (y : ℕ) × IsRound (round_part (suc n) is) i x y
    by i b h = ⊎_elim (λ (q : (n ≡ i) × (m ≡ h.0) × (k ≡ h.1)). let a = q.0 in absurd (omega arith))
        (λ (q : IsRound (round_part (suc n) is) i h.0 h.1). (h.0, h.1, q)) h.2

pub weave_is : (n : ℕ) (is : List Item) (look : ℕ → Option (ℕ × ℕ)) → AreRounds n is look
    → weave (length (born is)) n (turn_part n is) look ≡ flat is
weave_is n [] look are = refl
weave_is n (One k ∷ is) look are =
    weave_one (length (born is)) n k (turn_part n is) look
    ∙ ap (λ l. k ∷ l) (weave_is n is look record { there = are.there; only = are.only })
weave_is n (Born k ∷ is) look are =
    let none : look n ≡ None = none_of (look n) refl in
    let from = turn_from (suc n) is in
    ap
    (λ (z : List ℕ × List (ℕ × ℕ) × Option (ℕ × ℕ)).
    (z.0 ++ looped_by z.2) ++ weave (length (born is)) (suc n) z.1 look)
    (λ i. (
      (first_here n k (turn_part (suc n) is) ∙ ap (λ l. k ∷ l) (first_later n (turn_part (suc n) is) from)) i,
      (behind_here n k (turn_part (suc n) is) ∙ behind_later n (turn_part (suc n) is) from) i,
      none i,
    ))
    ∙ ap (λ l. k ∷ l) (weave_is (suc n) is look (born_next n k is look are))
  where
    none_of : (o : Option (ℕ × ℕ)) → look n ≡ o → look n ≡ None
    none_of None e = e
    none_of (Some x) e =
        let h = are.only n x (omega arith) e in
        let r = later (suc n) is n h.0 h.1 h.2 in
        absurd (omega arith)
weave_is n (Loop m k ∷ is) look are =
    let there : look n ≡ Some (m, k) = are.there n m k (inl (refl, refl, refl)) in
    let from = turn_from (suc n) is in
    ap
    (λ (z : List ℕ × List (ℕ × ℕ) × Option (ℕ × ℕ)).
    (z.0 ++ looped_by z.2) ++ weave (length (born is)) (suc n) z.1 look)
    (λ i. (first_later n (turn_part (suc n) is) from i, behind_later n (turn_part (suc n) is) from i, there i))
    ∙ ap (λ l. m ∷ k ∷ k ∷ l) (weave_is (suc n) is look (loop_next n m k is look are))
