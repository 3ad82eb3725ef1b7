-- Lists without a number, and the passes of a seat.
use Rattle.std.proofs.Common.{◌≡◌, ◌≢◌, inl, inr, ℕ, ◌+◌, ◌<◌, Bool, cond, List, [], ◌∷◌, ◌++◌, sym, refl, ap, ◌∙◌, subst, arith, eq-eqb, ne_eqb, append_assoc, append-nil}
use mathlib.Core.Logic.{dite}
use native.Mathlib.Decide.{ℕ_discrete}
use Rattle.hub_core.specs.Replay.{IsNotIn}
use Rattle.hub_core.specs.Counts.{total, is_at}
use Rattle.hub_core.proofs.Lists.{is_at_same, is_at_other}
use Rattle.hub_core.specs.Passes.{Pass, named, less, left, IsPass, IsSince, Fresh, IsStartOf, AreStartsOf}

module _ {A : Type 0} (f : A → ℕ) where
  abbrev count : ℕ → List A → ℕ
  count n = total (λ x. is_at n (f x))

  less_here : (k : ℕ) (x : A) (xs : List A) → f x ≡ k → less f k (x ∷ xs) ≡ less f k xs
  less_here k x xs e = ap (λ (b : Bool). cond b (less f k xs) (x ∷ less f k xs)) (eq-eqb (f x) k e)

  less_there : (k : ℕ) (x : A) (xs : List A) → f x ≢ k → less f k (x ∷ xs) ≡ x ∷ less f k xs
  less_there k x xs e = ap (λ (b : Bool). cond b (less f k xs) (x ∷ less f k xs)) (ne_eqb (f x) k e)

  pub count_gone : (k : ℕ) (xs : List A) → count k (less f k xs) ≡ 0
  count_gone k [] = refl
  count_gone k (x ∷ xs) = let r = count_gone k xs in dite (ℕ_discrete (f x) k)
      (λ e. ap (count k) (less_here k x xs e) ∙ r)
      (λ ne.
      let o = is_at_other k (f x) ne in
      let q : count k (less f k (x ∷ xs)) ≡ is_at k (f x) + count k (less f k xs) =
      ap (count k) (less_there k x xs ne) in
      omega arith)

  pub count_other : (k n : ℕ) (xs : List A) → n ≢ k → count n (less f k xs) ≡ count n xs
  count_other k n [] ne = refl
  count_other k n (x ∷ xs) ne = let r = count_other k n xs ne in dite (ℕ_discrete (f x) k)
      (λ e.
      let o = is_at_other n (f x) (λ h. ne (sym h ∙ e)) in
      let q : count n (less f k (x ∷ xs)) ≡ count n (less f k xs) = ap (count n) (less_here k x xs e) in
      omega arith)
      (λ nx.
      let q : count n (less f k (x ∷ xs)) ≡ is_at n (f x) + count n (less f k xs) =
      ap (count n) (less_there k x xs nx) in
      omega arith)

pub pass_named : (ps : List Pass) (k : ℕ) (at : List ℕ) → IsPass ps k at → 0 < named k ps
pass_named [] k at h = absurd h
pass_named (p ∷ ps) k at (inl h) =
    let o = is_at_same k in let q : is_at k p.0 ≡ is_at k k = ap (is_at k) h.0 in omega arith
pass_named (p ∷ ps) k at (inr h) = let r = pass_named ps k at h in omega arith

-- a pass that is left is one of before, of another number
pub left_pass : (k : ℕ) (ps : List Pass) (j : ℕ) (at : List ℕ) → IsPass (left k ps) j at → IsPass ps j at × (j ≢ k)
left_pass k [] j at h = absurd h
left_pass k (p ∷ ps) j at h = dite (ℕ_discrete p.0 k)
    (λ e.
    let r = left_pass k ps j at (subst (λ l. IsPass l j at) (less_here (λ (q : Pass). q.0) k p ps e) h) in
    (inr r.0, r.1))
    (λ ne. go ne (subst (λ l. IsPass l j at) (less_there (λ (q : Pass). q.0) k p ps ne) h) (left_pass k ps j at))
  where
    go : p.0 ≢ k → IsPass (p ∷ left k ps) j at → (IsPass (left k ps) j at → IsPass ps j at × (j ≢ k))
        → IsPass (p ∷ ps) j at × (j ≢ k)
    go ne (inl q) later = (inl q, λ e. ne (q.0 ∙ e))
    go ne (inr q) later = (inr (later q).0, (later q).1)

-- none of this number is left
pub none_left : (k : ℕ) (ps : List Pass) (at : List ℕ) → IsPass (left k ps) k at → ⊥
none_left k ps at h = (left_pass k ps k at h).1 refl

-- a pass of another number than the first stands behind it
pub pass_behind : (p : Pass) (ps : List Pass) (j : ℕ) (at : List ℕ) → IsPass (p ∷ ps) j at → j ≢ p.0 → IsPass ps j at
pass_behind p ps j at (inl q) apart = absurd (apart (sym q.0))
pass_behind p ps j at (inr q) apart = q

-- and one of another number is left
pub pass_left : (k : ℕ) (ps : List Pass) (j : ℕ) (at : List ℕ) → IsPass ps j at → j ≢ k → IsPass (left k ps) j at
pass_left k [] j at h apart = absurd h
pass_left k (p ∷ ps) j at (inl q) apart =
    subst (λ l. IsPass l j at) (sym (less_there (λ (q : Pass). q.0) k p ps (λ e. apart (sym q.0 ∙ e)))) (inl q)
pass_left k (p ∷ ps) j at (inr q) apart = dite (ℕ_discrete p.0 k)
    (λ e. subst (λ l. IsPass l j at) (sym (less_here (λ (q : Pass). q.0) k p ps e)) (pass_left k ps j at q apart))
    (λ ne. subst (λ l. IsPass l j at) (sym (less_there (λ (q : Pass). q.0) k p ps ne))
    (inr (pass_left k ps j at q apart)))

pub not_in_more : (k n : ℕ) (ns : List ℕ) → n ≢ k → IsNotIn k ns → IsNotIn k (ns ++ n ∷ [])
not_in_more k n [] apart h = (apart, tt)
not_in_more k n (m ∷ ns) apart h = (h.0, not_in_more k n ns apart h.1)

pub since_more : (log : List ℕ) (j n : ℕ) (at : List ℕ) → n ≢ j → IsSince log j at → IsSince (log ++ n ∷ []) j at
since_more log j n at apart h =
    (h.0 ++ n ∷ [], ap (λ l. l ++ n ∷ []) h.1 ∙ append_assoc at h.0 (n ∷ []), not_in_more j n h.0 apart h.2)

pub since_now : (log : List ℕ) (j : ℕ) (at : List ℕ) → log ≡ at → IsSince log j at
since_now log j at e = ([], e ∙ sym (append-nil at), tt)

pub fresh_append : (log : List ℕ) (ps qs : List Pass) → Fresh log ps → Fresh log qs → Fresh log (ps ++ qs)
fresh_append log [] qs f g = g
fresh_append log (p ∷ ps) qs f g = go (fresh_append log ps qs (λ k at h. f k at (inr h)) g)
  where
    go : Fresh log (ps ++ qs) → (k : ℕ) (at : List ℕ) → IsPass (p ∷ (ps ++ qs)) k at → IsSince log k at
    go rest k at (inl e) = f k at (inl e)
    go rest k at (inr h) = rest k at h

-- a schedule begins with itself, and goes on from what it began with
pub start_now : (at log : List ℕ) → at ≡ log → IsStartOf at log
start_now at log e = ([], sym e ∙ sym (append-nil at))

pub starts_more : (log : List ℕ) (k : ℕ) (ats : List (List ℕ)) → AreStartsOf log ats → AreStartsOf (log ++ k ∷ []) ats
starts_more log k [] h = tt
starts_more log k (at ∷ ats) h =
    ((h.0.0 ++ k ∷ [], ap (λ l. l ++ k ∷ []) h.0.1 ∙ append_assoc at h.0.0 (k ∷ [])), starts_more log k ats h.1)

pub starts_append : (log : List ℕ) (xs ys : List (List ℕ)) → AreStartsOf log xs → AreStartsOf log ys
    → AreStartsOf log (xs ++ ys)
starts_append log [] ys h g = g
starts_append log (x ∷ xs) ys h g = (h.0, starts_append log xs ys h.1 g)

pub starts_parts : (log : List ℕ) (xs ys : List (List ℕ)) → AreStartsOf log (xs ++ ys)
    → AreStartsOf log xs × AreStartsOf log ys
starts_parts log [] ys h = (tt, h)
starts_parts log (x ∷ xs) ys h = let r = starts_parts log xs ys h.1 in ((h.0, r.0), r.1)
