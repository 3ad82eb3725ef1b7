-- What the turns entered, with counts, and the rounds by number tell who forked each number.
use Rattle.std.proofs.Common.{◌≡◌, ◌⊎◌, inl, inr, ℕ, suc, List, [], ◌∷◌, length, refl, sym, ap, ◌∙◌, arith, Option, Some, None}
use Rattle.hub_core.specs.Rounds.{Item, One, Born, Loop, born, turn_part, first_at, last_or, forker_of, weave_forkers, AreRounds}
use Rattle.hub_core.proofs.Weaving.{turn_from, first_here, behind_here, first_later, behind_later, later, born_next, loop_next}

one_next : (n j : ℕ) (is : List Item) (look : ℕ → Option (ℕ × ℕ)) → AreRounds n (One j ∷ is) look → AreRounds n is look
one_next n j is look are = record { there = are.there; only = are.only }

no_round : (n k : ℕ) (is : List Item) (look : ℕ → Option (ℕ × ℕ)) → AreRounds n (Born k ∷ is) look → look n ≡ None
no_round n k is look are = by (look n) refl
  where
    by : (o : Option (ℕ × ℕ)) → look n ≡ o → look n ≡ None
    by None e = e
    by (Some x) e =
        let h = are.only n x (omega arith) e in
        let r = later (suc n) is n h.0 h.1 h.2 in
        absurd (omega arith)

-- the next number was forked by what entered last before it, or its round says by whom
abbrev Next : ℕ → ℕ → ℕ → List Item → (ℕ → Option (ℕ × ℕ)) → Type 0
Next n x b is look =
    ((look n ≡ None) × (last_or x (first_at n (turn_part n is)) ≡ b))
    ⊎ ((m : ℕ) × (look n ≡ Some (m, b)))

next_is : (n x b : ℕ) (bs : List ℕ) (is : List Item) (look : ℕ → Option (ℕ × ℕ)) → AreRounds n is look
    → born is ≡ b ∷ bs → Next n x b is look
next_is n x b bs [] look are e = absurd cc
next_is n x b bs (One j ∷ is) look are e = by (next_is n j b bs is look (one_next n j is look are) e)
  where
    by : Next n j b is look → Next n x b (One j ∷ is) look
    by (inl h) = inl (h.0, ap (last_or x) (first_here n j (turn_part n is)) ∙ h.1)
    by (inr h) = inr h
next_is n x b bs (Born k ∷ is) look are e =
    let first : k ≡ b = head_is k b (born is) bs e in
    inl (
      no_round n k is look are,
      ap (last_or x)
          (first_here n k (turn_part (suc n) is)
          ∙ ap (λ l. k ∷ l) (first_later n (turn_part (suc n) is) (turn_from (suc n) is)))
          ∙ first,
    )
  where
    head_is : (k b : ℕ) (ks bs : List ℕ) → k ∷ ks ≡ b ∷ bs → k ≡ b
    head_is k b ks bs e = cc
next_is n x b bs (Loop m k ∷ is) look are e =
    let first : k ≡ b = head_is k b (born is) bs e in
    inr (m, are.there n m k (inl (refl, refl, refl)) ∙ ap (λ z. Some (m, z)) first)
  where
    head_is : (k b : ℕ) (ks bs : List ℕ) → k ∷ ks ≡ b ∷ bs → k ≡ b
    head_is k b ks bs e = cc

forker_is : (n b : ℕ) (bs : List ℕ) (is : List Item) (look : ℕ → Option (ℕ × ℕ)) → AreRounds n is look
    → born is ≡ b ∷ bs → forker_of n (turn_part n is) (look n) ≡ b
forker_is n b bs is look are e = by (next_is n 0 b bs is look are e)
  where
    by : Next n 0 b is look → forker_of n (turn_part n is) (look n) ≡ b
    by (inl h) = ap (forker_of n (turn_part n is)) h.0 ∙ h.1
    by (inr h) = ap (forker_of n (turn_part n is)) h.1

-- an entry that is no fork changes no forker
one_same : (n j : ℕ) (bs : List ℕ) (is : List Item) (look : ℕ → Option (ℕ × ℕ)) → AreRounds n (One j ∷ is) look
    → born is ≡ bs
    → weave_forkers (length bs) n ((n, j) ∷ turn_part n is) look ≡ weave_forkers (length bs) n (turn_part n is) look
one_same n j [] is look are e = refl
one_same n j (b ∷ bs) is look are e =
    ap (λ (z : ℕ × List (ℕ × ℕ)). z.0 ∷ weave_forkers (length bs) (suc n) z.1 look)
    (λ i. (
      (forker_is n b bs (One j ∷ is) look are e ∙ sym (forker_is n b bs is look (one_next n j is look are) e)) i,
      behind_here n j (turn_part n is) i,
    ))

pub forkers_are : (n : ℕ) (is : List Item) (look : ℕ → Option (ℕ × ℕ)) → AreRounds n is look
    → weave_forkers (length (born is)) n (turn_part n is) look ≡ born is
forkers_are n [] look are = refl
forkers_are n (One k ∷ is) look are =
    one_same n k (born is) is look are refl ∙ forkers_are n is look (one_next n k is look are)
forkers_are n (Born k ∷ is) look are =
    ap (λ (z : ℕ × List (ℕ × ℕ)). z.0 ∷ weave_forkers (length (born is)) (suc n) z.1 look)
    (λ i. (
      forker_is n k (born is) (Born k ∷ is) look are refl i,
      (behind_here n k (turn_part (suc n) is) ∙ behind_later n (turn_part (suc n) is) (turn_from (suc n) is)) i,
    ))
    ∙ ap (λ l. k ∷ l) (forkers_are (suc n) is look (born_next n k is look are))
forkers_are n (Loop m k ∷ is) look are =
    ap (λ (z : ℕ × List (ℕ × ℕ)). z.0 ∷ weave_forkers (length (born is)) (suc n) z.1 look)
    (λ i. (
      forker_is n k (born is) (Loop m k ∷ is) look are refl i,
      behind_later n (turn_part (suc n) is) (turn_from (suc n) is) i,
    ))
    ∙ ap (λ l. k ∷ l) (forkers_are (suc n) is look (loop_next n m k is look are))
