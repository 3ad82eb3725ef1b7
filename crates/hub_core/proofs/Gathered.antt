-- The rounds that all seats made are those of the schedule, each once, so by number they are what a close looks up.
use Rattle.std.proofs.Common.{◌≡◌, inl, inr, ℕ, suc, ◌<◌, ◌≤◌, List, [], ◌∷◌, refl, sym, ap, ◌∙◌, arith, Option, Some}
use mathlib.Core.Logic.{dite}
use native.Mathlib.Decide.{ℕ_discrete}
use Rattle.hub_core.specs.Counts.{is_at, times}
use Rattle.hub_core.specs.Rounds.{Item, One, Born, Loop, Round, round_part, IsRound, children, AreRounds}
use Rattle.hub_core.proofs.Lists.{is_at_same, is_at_other}
use Rattle.hub_core.proofs.Weaving.{later}

-- a child of a list has a round there, and the other way round
pub round_there : (rs : List Round) (n : ℕ) → 0 < times n (children rs) → (m : ℕ) × (k : ℕ) × IsRound rs n m k
round_there [] n some = absurd (omega arith)
round_there (r ∷ rs) n some = dite (ℕ_discrete r.0 n)
    (λ is. (r.1, r.2, inl (is, refl, refl)))
    (λ ne.
    let o = is_at_other n r.0 ne in
    let h = round_there rs n (omega arith) in
    (h.0, h.1, inr h.2))

pub child_there : (rs : List Round) (n m k : ℕ) → IsRound rs n m k → 0 < times n (children rs)
child_there [] n m k h = absurd h
child_there (r ∷ rs) n m k (inl h) =
    let o : is_at n r.0 ≡ 1 = ap (is_at n) h.0 ∙ is_at_same n in omega arith
child_there (r ∷ rs) n m k (inr h) = let a = child_there rs n m k h in omega arith

-- a number has one round in a schedule
no_child : (n : ℕ) (is : List Item) (i : ℕ) → i < n → times i (children (round_part n is)) ≡ 0
no_child n [] i below = refl
no_child n (One j ∷ is) i below = no_child n is i below
no_child n (Born j ∷ is) i below = no_child (suc n) is i (omega arith)
no_child n (Loop x y ∷ is) i below =
    let a = no_child (suc n) is i (omega arith) in
    let o = is_at_other i n (λ e. omega arith) in
    omega arith

pub child_once : (n : ℕ) (is : List Item) (i : ℕ) → times i (children (round_part n is)) ≤ 1
child_once n [] i = omega arith
child_once n (One j ∷ is) i = child_once n is i
child_once n (Born j ∷ is) i = child_once (suc n) is i
child_once n (Loop x y ∷ is) i = dite (ℕ_discrete i n)
    (λ e.
    let a = no_child (suc n) is i (omega arith) in
    let o : is_at i n ≡ 1 = ap (λ z. is_at z n) e ∙ is_at_same n in
    omega arith)
    (λ ne. let a = child_once (suc n) is i in let o = is_at_other i n (λ e. ne (sym e)) in omega arith)

one_round : (n : ℕ) (is : List Item) (i m k p q : ℕ) → IsRound (round_part n is) i m k → IsRound (round_part n is) i p q
    → (m ≡ p) × (k ≡ q)
one_round n [] i m k p q a b = absurd a
one_round n (One j ∷ is) i m k p q a b = one_round n is i m k p q a b
one_round n (Born j ∷ is) i m k p q a b = one_round (suc n) is i m k p q a b
one_round n (Loop x y ∷ is) i m k p q (inl a) (inl b) = (sym a.1 ∙ b.1, sym a.2 ∙ b.2)
one_round n (Loop x y ∷ is) i m k p q (inl a) (inr b) =
    let z = a.0 in let w = later (suc n) is i p q b in absurd (omega arith)
one_round n (Loop x y ∷ is) i m k p q (inr a) (inl b) =
    let z = b.0 in let w = later (suc n) is i m k a in absurd (omega arith)
one_round n (Loop x y ∷ is) i m k p q (inr a) (inr b) = one_round (suc n) is i m k p q a b

pub rounds_of_all : (is : List Item) (rs : List Round) (look : ℕ → Option (ℕ × ℕ))
    → ((n : ℕ) → times n (children rs) ≡ times n (children (round_part 1 is)))
    → ((n m k : ℕ) → IsRound rs n m k → IsRound (round_part 1 is) n m k)
    → ((n m k : ℕ) → IsRound rs n m k → look n ≡ Some (m, k))
    → ((n : ℕ) (x : ℕ × ℕ) → look n ≡ Some x → IsRound rs n x.0 x.1) → AreRounds 1 is look
rounds_of_all is rs look each made there only = record {
  there = λ i m k h.
      let some = child_there (round_part 1 is) i m k h in
      let e = each i in
      let g = round_there rs i (omega arith) in
      let same = one_round 1 is i g.0 g.1 m k (made i g.0 g.1 g.2) h in
      there i g.0 g.1 g.2 ∙ ap (λ (z : ℕ × ℕ). Some z) (λ p. (same.0 p, same.1 p));
  only = λ i x from e. (x.0, x.1, made i x.0 x.1 (only i x e));
}
