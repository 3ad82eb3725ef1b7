-- Rounds that are put at the numbers of their children, and what stands there then.
use Rattle.std.proofs.Common.{◌≡◌, ◌≢◌, ◌⊎◌, inl, inr, ⊎_elim, ℕ, zero, suc, ◌+◌, ◌-◌, ◌<◌, ◌≤◌, ◌==◌, Bool, cond, List, [], ◌∷◌, ◌++◌, length, slice_index_or, slice_set, append_assoc, append-nil, refl, sym, ap, ◌∙◌, arith, eq-eqb, ne_eqb, Option, Some, None}
use mathlib.Core.Logic.{dite}
use native.Mathlib.Decide.{ℕ_discrete}
use Rattle.revision_machine.proofs.Paths.{some_inj}
use Rattle.hub_core.specs.declared.journal.Looped.{Looped}
use Rattle.hub_core.specs.Counts.{is_at, times}
use Rattle.hub_core.specs.Rounds.{Round, IsRound, children, first_at, behind_at, looped_by, weave, forker_of, weave_forkers, last_or}
use Rattle.hub_core.specs.Woven.{looped_pair, rounds_at}
use Rattle.hub_core.specs.Ordered.{AreBelow, placed, look_of, forker_or}
use Rattle.hub_core.proofs.Lists.{is_at_same}

-- the same rounds behind the same
pub placed_same : (rs : List Round) (look next : ℕ → Option (ℕ × ℕ)) → ((n : ℕ) → next n ≡ look n)
    → (n : ℕ) → placed rs next n ≡ placed rs look n
placed_same rs look next same n = ap (λ (f : ℕ → Option (ℕ × ℕ)). placed rs f n) (λ i m. same m i)

pub placed_append : (rs qs : List Round) (look : ℕ → Option (ℕ × ℕ)) (n : ℕ)
    → placed (rs ++ qs) look n ≡ placed qs (placed rs look) n
placed_append [] qs look n = refl
placed_append (r ∷ rs) qs look n = placed_append rs qs (λ i. cond (r.0 == i) (Some (r.1, r.2)) (look i)) n

pub below_front : (born : ℕ) (rs qs : List Round) → AreBelow born (rs ++ qs) → AreBelow born rs × AreBelow born qs
below_front born [] qs all = (tt, all)
below_front born (r ∷ rs) qs all = let f = below_front born rs qs all.1 in ((all.0, f.0), f.1)

placed_here : (r : Round) (look : ℕ → Option (ℕ × ℕ)) (n : ℕ) → r.0 ≡ n
    → cond (r.0 == n) (Some (r.1, r.2)) (look n) ≡ Some (r.1, r.2)
placed_here r look n e = ap (λ (b : Bool). cond b (Some (r.1, r.2)) (look n)) (eq-eqb r.0 n e)

placed_other : (r : Round) (look : ℕ → Option (ℕ × ℕ)) (n : ℕ) → r.0 ≢ n
    → cond (r.0 == n) (Some (r.1, r.2)) (look n) ≡ look n
placed_other r look n ne = ap (λ (b : Bool). cond b (Some (r.1, r.2)) (look n)) (ne_eqb r.0 n ne)

-- a number that is no child of these
placed_none : (rs : List Round) (look : ℕ → Option (ℕ × ℕ)) (n : ℕ) → times n (children rs) ≡ 0
    → placed rs look n ≡ look n
placed_none [] look n none = refl
placed_none (r ∷ rs) look n none =
    let ne : r.0 ≢ n = λ e. let a : is_at n r.0 ≡ 1 = ap (is_at n) e ∙ is_at_same n in omega arith in
    placed_none rs (λ i. cond (r.0 == i) (Some (r.1, r.2)) (look i)) n (omega arith) ∙ placed_other r look n ne

placed_there : (rs : List Round) (look : ℕ → Option (ℕ × ℕ)) (n m k : ℕ) → times n (children rs) ≤ 1
    → IsRound rs n m k → placed rs look n ≡ Some (m, k)
placed_there [] look n m k once h = absurd h
placed_there (r ∷ rs) look n m k once (inl h) =
    let a : is_at n r.0 ≡ 1 = ap (is_at n) h.0 ∙ is_at_same n in
    placed_none rs (λ i. cond (r.0 == i) (Some (r.1, r.2)) (look i)) n (omega arith)
    ∙ (placed_here r look n h.0 ∙ ap (λ (z : ℕ × ℕ). Some z) (λ i. (h.1 i, h.2 i)))
placed_there (r ∷ rs) look n m k once (inr h) =
    placed_there rs (λ i. cond (r.0 == i) (Some (r.1, r.2)) (look i)) n m k (omega arith) h

placed_only : (rs : List Round) (look : ℕ → Option (ℕ × ℕ)) (n : ℕ) (x : ℕ × ℕ) → placed rs look n ≡ Some x
    → IsRound rs n x.0 x.1 ⊎ (look n ≡ Some x)
placed_only [] look n x e = inr e
placed_only (r ∷ rs) look n x e = by (placed_only rs (λ i. cond (r.0 == i) (Some (r.1, r.2)) (look i)) n x e)
  where
    by : IsRound rs n x.0 x.1 ⊎ (cond (r.0 == n) (Some (r.1, r.2)) (look n) ≡ Some x)
        → IsRound (r ∷ rs) n x.0 x.1 ⊎ (look n ≡ Some x)
    by (inl h) = inl (inr h)
    by (inr h) = dite (ℕ_discrete r.0 n)
        (λ is.
        let s = some_inj (sym (placed_here r look n is) ∙ h) in
        inl (inl (is, ap (λ (z : ℕ × ℕ). z.0) s, ap (λ (z : ℕ × ℕ). z.1) s)))
        (λ ne. inr (sym (placed_other r look n ne) ∙ h))

-- what the rounds of all seats say of a number, where no number has two
pub looked_there : (rs : List Round) → ((n : ℕ) → times n (children rs) ≤ 1) → (n m k : ℕ) → IsRound rs n m k
    → look_of rs n ≡ Some (m, k)
looked_there rs once n m k h = placed_there rs (λ i. None) n m k (once n) h

pub looked_only : (rs : List Round) (n : ℕ) (x : ℕ × ℕ) → look_of rs n ≡ Some x → IsRound rs n x.0 x.1
looked_only rs n x e =
    ⊎_elim (λ h. h) (λ (q : None ≡ Some x). absurd cc) (placed_only rs (λ i. None) n x e)

pub below_all : (born : ℕ) (rs : List Round) → ((n m k : ℕ) → IsRound rs n m k → n < born) → AreBelow born rs
below_all born [] all = tt
below_all born (r ∷ rs) all =
    (all r.0 r.1 r.2 (inl (refl, refl, refl)), below_all born rs (λ n m k h. all n m k (inr h)))

-- a round is put at its number
put_here : (rs : List (Option Looped)) (c : ℕ) (o : Option Looped) → c < length rs
    → rounds_at (slice_set rs c o) c ≡ looped_pair o
put_here [] c o within = absurd (omega arith)
put_here (x ∷ rs) zero o within = refl
put_here (x ∷ rs) (suc c) o within = put_here rs c o (omega arith)

put_other : (rs : List (Option Looped)) (c n : ℕ) (o : Option Looped) → c ≢ n
    → rounds_at (slice_set rs c o) n ≡ rounds_at rs n
put_other [] c n o ne = refl
put_other (x ∷ rs) zero zero o ne = absurd (ne refl)
put_other (x ∷ rs) zero (suc n) o ne = refl
put_other (x ∷ rs) (suc c) zero o ne = refl
put_other (x ∷ rs) (suc c) (suc n) o ne = put_other rs c n o (λ e. ne (ap suc e))

pub rounds_put : (rs : List (Option Looped)) (c : ℕ) (x : Looped) → c < length rs → (n : ℕ)
    → rounds_at (slice_set rs c (Some x)) n ≡ cond (c == n) (Some (x.joinee, x.forker)) (rounds_at rs n)
rounds_put rs c x within n = dite (ℕ_discrete c n)
    (λ e.
    ap (λ m. rounds_at (slice_set rs c (Some x)) m) (sym e)
    ∙ (put_here rs c (Some x) within
    ∙ sym (ap (λ (b : Bool). cond b (Some (x.joinee, x.forker)) (rounds_at rs n)) (eq-eqb c n e))))
    (λ ne.
    put_other rs c n (Some x) ne
    ∙ sym (ap (λ (b : Bool). cond b (Some (x.joinee, x.forker)) (rounds_at rs n)) (ne_eqb c n ne)))

pub rounds_or : (rs : List (Option Looped)) (n : ℕ) (o : Option Looped) → n < length rs
    → rounds_at rs n ≡ looped_pair (slice_index_or rs n o)
rounds_or [] n o within = absurd (omega arith)
rounds_or (x ∷ rs) zero o within = refl
rounds_or (x ∷ rs) (suc n) o within = rounds_or rs n o (omega arith)

-- one number more
weave_step : (b n : ℕ) (es : List (ℕ × ℕ)) (look : ℕ → Option (ℕ × ℕ)) → n < b
    → weave (b - n) n es look
    ≡ (first_at n es ++ looped_by (look n)) ++ weave (b - (n + 1)) (n + 1) (behind_at n es) look
weave_step b n es look below =
    let e : b - n ≡ suc (b - (n + 1)) = omega arith in
    let z : suc n ≡ n + 1 = omega arith in
    ap (λ c. weave c n es look) e
    ∙ ap (λ m. (first_at n es ++ looped_by (look n)) ++ weave (b - (n + 1)) m (behind_at n es) look) z

pub weave_next : (b n : ℕ) (es next : List (ℕ × ℕ)) (look : ℕ → Option (ℕ × ℕ)) (o : Option (ℕ × ℕ))
    (s between t : List ℕ) → n < b → between ≡ s ++ first_at n es → t ≡ between ++ looped_by o → look n ≡ o
    → next ≡ behind_at n es → t ++ weave (b - (n + 1)) (n + 1) next look ≡ s ++ weave (b - n) n es look
weave_next b n es next look o s between t below first then there behind =
    ap (λ (z : List ℕ × List (ℕ × ℕ)). z.0 ++ weave (b - (n + 1)) (n + 1) z.1 look)
    (λ i. (
      (then ∙ ap (λ (z : List ℕ × Option (ℕ × ℕ)). z.0 ++ looped_by z.1) (λ j. (first j, sym there j))) i,
      behind i,
    ))
    ∙ (ap (λ l. l ++ weave (b - (n + 1)) (n + 1) (behind_at n es) look)
    (append_assoc s (first_at n es) (looped_by (look n)))
    ∙ (append_assoc s (first_at n es ++ looped_by (look n)) (weave (b - (n + 1)) (n + 1) (behind_at n es) look)
    ∙ ap (λ l. s ++ l) (sym (weave_step b n es look below))))

forker_same : (n last : ℕ) (es : List (ℕ × ℕ)) (o : Option (ℕ × ℕ)) → last ≡ last_or 0 (first_at n es)
    → forker_or last o ≡ forker_of n es o
forker_same n last es None e = e
forker_same n last es (Some x) e = refl

forkers_step : (b n : ℕ) (es : List (ℕ × ℕ)) (look : ℕ → Option (ℕ × ℕ)) → n < b
    → weave_forkers (b - n) n es look
    ≡ forker_of n es (look n) ∷ weave_forkers (b - (n + 1)) (n + 1) (behind_at n es) look
forkers_step b n es look below =
    let e : b - n ≡ suc (b - (n + 1)) = omega arith in
    let z : suc n ≡ n + 1 = omega arith in
    ap (λ c. weave_forkers c n es look) e
    ∙ ap (λ m. forker_of n es (look n) ∷ weave_forkers (b - (n + 1)) m (behind_at n es) look) z

pub forkers_next : (b n last forker : ℕ) (es next : List (ℕ × ℕ)) (look : ℕ → Option (ℕ × ℕ)) (o : Option (ℕ × ℕ))
    (f g : List ℕ) → n < b → g ≡ f ++ forker ∷ [] → forker ≡ forker_or last o → last ≡ last_or 0 (first_at n es)
    → look n ≡ o → next ≡ behind_at n es
    → g ++ weave_forkers (b - (n + 1)) (n + 1) next look ≡ f ++ weave_forkers (b - n) n es look
forkers_next b n last forker es next look o f g below more is was there behind =
    let one : forker ≡ forker_of n es (look n) =
    is ∙ (forker_same n last es o was ∙ ap (forker_of n es) (sym there)) in
    ap (λ (z : List ℕ × List (ℕ × ℕ)). z.0 ++ weave_forkers (b - (n + 1)) (n + 1) z.1 look)
    (λ i. ((more ∙ ap (λ x. f ++ x ∷ []) one) i, behind i))
    ∙ (append_assoc f (forker_of n es (look n) ∷ []) (weave_forkers (b - (n + 1)) (n + 1) (behind_at n es) look)
    ∙ ap (λ l. f ++ l) (sym (forkers_step b n es look below)))

-- all numbers are through
pub weave_end : (b n : ℕ) (es : List (ℕ × ℕ)) (look : ℕ → Option (ℕ × ℕ)) (s t : List ℕ) → b ≤ n
    → t ≡ s ++ weave zero n es look → t ≡ s ++ weave (b - n) n es look
weave_end b n es look s t over e =
    let z : zero ≡ b - n = omega arith in e ∙ ap (λ c. s ++ weave c n es look) z

pub forkers_end : (b n : ℕ) (es : List (ℕ × ℕ)) (look : ℕ → Option (ℕ × ℕ)) (f : List ℕ) → b ≤ n
    → f ≡ f ++ weave_forkers (b - n) n es look
forkers_end b n es look f over =
    let z : zero ≡ b - n = omega arith in
    sym (append-nil f) ∙ ap (λ c. f ++ weave_forkers c n es look) z
