-- What a join writes, one location after another.
use Rattle.std.proofs.Common.{◌≡◌, ℕ, suc, ◌+◌, ◌<◌, ◌≤◌, ◌⊎◌, inl, inr, min, List, [], ◌∷◌, ◌++◌, take, drop, length, get_or, Option, Some, None, Result, Ok, Err, refl, sym, ap, ◌∙◌, arith, add-one, length-drop, length-take, append_assoc}
use Rattle.std.proofs.Math.Seq.{take-suc, drop-cons}
use Rattle.std.proofs.lemmas.Bool.{cases_order}
use Rattle.rev_num.specs.declared.value.Value.{Value}
use Rattle.rev_num.specs.declared.value.NumFault.{NumFault}
use Rattle.rev_syntax.specs.Trees.{ProgramTree}
use Rattle.revision_calculus.specs.State.{Location, with_write}
use Rattle.revision_calculus.specs.Join.{Composition, merged, faults, and_later, join_location, compose}
use Rattle.joined_locations.specs.Changes.{changed, put, put_at, change_of, in_front}

-- ---- writes from the last to the first

put_none : (ms : List Location) → put ms [] ≡ ms
put_none [] = refl
put_none (m ∷ ms) = refl

pub put_last : (ms : List Location) (cs : List (Option Value)) (c : Option Value)
    → put ms (cs ++ c ∷ []) ≡ put (put_at ms (length cs) c) cs
put_last [] [] None = refl
put_last [] [] (Some x) = refl
put_last [] (u ∷ cs) None = refl
put_last [] (u ∷ cs) (Some x) = refl
put_last (m ∷ ms) [] None = ap (λ t. m ∷ t) (put_none ms)
put_last (m ∷ ms) [] (Some x) = ap (λ t. with_write m.base x ∷ t) (put_none ms)
put_last (m ∷ ms) (u ∷ cs) None = ap (λ t. changed m u ∷ t) (put_last ms cs None)
put_last (m ∷ ms) (u ∷ cs) (Some x) = ap (λ t. changed m u ∷ t) (put_last ms cs (Some x))

pub put_empty : (ms : List Location) (cs : List (Option Value)) → length cs ≡ 0 → ms ≡ put ms cs
put_empty ms [] e = sym (put_none ms)
put_empty ms (c ∷ cs) e = absurd (omega arith)

-- ---- one location more

put_more : (ms : List Location) (cs : List (Option Value)) (m : Location) (c : Option Value) → length ms ≡ length cs
    → put (ms ++ m ∷ []) (cs ++ c ∷ []) ≡ put ms cs ++ changed m c ∷ []
put_more [] [] m c e = refl
put_more [] (u ∷ cs) m c e = absurd (omega arith)
put_more (n ∷ ms) [] m c e = absurd (omega arith)
put_more (n ∷ ms) (u ∷ cs) m c e = ap (λ t. changed n u ∷ t) (put_more ms cs m c (omega arith))

put_split : (ms : List Location) (cs : List (Option Value))
    → put (take (length cs) ms) cs ++ drop (length cs) ms ≡ put ms cs
put_split [] [] = refl
put_split [] (c ∷ cs) = refl
put_split (m ∷ ms) [] = refl
put_split (m ∷ ms) (c ∷ cs) = ap (λ t. changed m c ∷ t) (put_split ms cs)

module _ (p : ProgramTree) where
  goes_on : (front : List Location) (n : ℕ) (m : Location) (found : Result Location NumFault) (later : Composition)
      → found ≡ Ok m → in_front front (and_later n found later) ≡ in_front (front ++ m ∷ []) later
  goes_on front n m found (merged ms) e =
      ap (λ x. in_front front (and_later n x (merged ms))) e ∙ ap merged (sym (append_assoc front (m ∷ []) ms))
  goes_on front n m found (faults k f) e = ap (λ x. in_front front (and_later n x (faults k f))) e

  stops : (front : List Location) (n : ℕ) (f : NumFault) (found : Result Location NumFault) (later : Composition)
      → found ≡ Err f → in_front front (and_later n found later) ≡ faults n f
  stops front n f found later e = ap (λ x. in_front front (and_later n x later)) e

  opened : (ks : List (Option ℕ)) (ms js : List Location) (n : ℕ) (k : Option ℕ) (m j : Location) → n < length ks
      → n < length ms → n < length js → k ≡ get_or ks n k → m ≡ get_or ms n m → j ≡ get_or js n j
      → compose p n (drop n ks) (drop n ms) (drop n js)
      ≡ and_later n (join_location p k m j j.written)
      (compose p (suc n) (drop (suc n) ks) (drop (suc n) ms) (drop (suc n) js))
  opened ks ms js n k m j kn mn jn ke me je =
      ap (λ x. compose p n x (drop n ms) (drop n js)) (drop-cons ks n k kn ∙ ap (λ t. t ∷ drop (suc n) ks) (sym ke))
      ∙ ap (λ x. compose p n (k ∷ drop (suc n) ks) x (drop n js))
      (drop-cons ms n m mn ∙ ap (λ t. t ∷ drop (suc n) ms) (sym me))
      ∙ ap (λ x. compose p n (k ∷ drop (suc n) ks) (m ∷ drop (suc n) ms) x)
      (drop-cons js n j jn ∙ ap (λ t. t ∷ drop (suc n) js) (sym je))

  -- a location without a fault
  pub composed_more : (ks : List (Option ℕ)) (ms js : List Location) (n : ℕ) (cs : List (Option Value))
      (c : Option Value) (k : Option ℕ) (m j : Location)
      → n < length ks → n < length ms → n < length js
      → k ≡ get_or ks n k → m ≡ get_or ms n m → j ≡ get_or js n j → length cs ≡ n
      → change_of m (Ok c) ≡ join_location p k m j j.written
      → in_front (put (take (n + 1) ms) (cs ++ c ∷ []))
      (compose p (n + 1) (drop (n + 1) ks) (drop (n + 1) ms) (drop (n + 1) js))
      ≡ in_front (put (take n ms) cs) (compose p n (drop n ks) (drop n ms) (drop n js))
  composed_more ks ms js n cs c k m j kn mn jn ke me je len at =
      let long : length (take n ms) ≡ length cs = omega (arith, length-take n ms) in
      let front : put (take (suc n) ms) (cs ++ c ∷ []) ≡ put (take n ms) cs ++ changed m c ∷ [] =
      ap (λ t. put t (cs ++ c ∷ [])) (take-suc ms n m mn ∙ ap (λ t. take n ms ++ t ∷ []) (sym me))
      ∙ put_more (take n ms) cs m c long
      in
      ap (λ i. in_front (put (take i ms) (cs ++ c ∷ [])) (compose p i (drop i ks) (drop i ms) (drop i js))) (add-one n)
      ∙ ap (λ t. in_front t (compose p (suc n) (drop (suc n) ks) (drop (suc n) ms) (drop (suc n) js))) front
      ∙ sym (goes_on (put (take n ms) cs) n (changed m c) (join_location p k m j j.written)
      (compose p (suc n) (drop (suc n) ks) (drop (suc n) ms) (drop (suc n) js)) (sym at))
      ∙ ap (in_front (put (take n ms) cs)) (sym (opened ks ms js n k m j kn mn jn ke me je))

  short : (n : ℕ) (ks : List (Option ℕ)) (ms js : List Location) → (length ks ≤ 0) ⊎ ((length ms ≤ 0) ⊎ (length js ≤ 0))
      → compose p n ks ms js ≡ merged ms
  short n [] ms js e = refl
  short n (k ∷ ks) [] js e = refl
  short n (k ∷ ks) (m ∷ ms) [] e = refl
  short n (k ∷ ks) (m ∷ ms) (j ∷ js) (inl e) = absurd (omega arith)
  short n (k ∷ ks) (m ∷ ms) (j ∷ js) (inr (inl e)) = absurd (omega arith)
  short n (k ∷ ks) (m ∷ ms) (j ∷ js) (inr (inr e)) = absurd (omega arith)

  one_is_short : (ks : List (Option ℕ)) (ms js : List Location) (i : ℕ)
      → min (min (length ks) (length ms)) (length js) ≤ i
      → (length (drop i ks) ≤ 0) ⊎ ((length (drop i ms) ≤ 0) ⊎ (length (drop i js) ≤ 0))
  one_is_short ks ms js i most = go (cases_order (length ks) i) (cases_order (length ms) i)
    where
      go : (length ks ≡ i) ⊎ ((length ks < i) ⊎ (i < length ks)) → (length ms ≡ i) ⊎ ((length ms < i) ⊎ (i < length ms))
          → (length (drop i ks) ≤ 0) ⊎ ((length (drop i ms) ≤ 0) ⊎ (length (drop i js) ≤ 0))
      go (inl e) b = inl (omega (arith, length-drop i ks))
      go (inr (inl e)) b = inl (omega (arith, length-drop i ks))
      go (inr (inr a)) (inl e) = inr (inl (omega (arith, length-drop i ms)))
      go (inr (inr a)) (inr (inl e)) = inr (inl (omega (arith, length-drop i ms)))
      go (inr (inr a)) (inr (inr b)) = inr (inr (omega (arith, length-drop i js)))

  -- past the shortest of the lists nothing changes
  pub composed_all : (ks : List (Option ℕ)) (ms js : List Location) (n : ℕ) (cs : List (Option Value))
      → min (min (length ks) (length ms)) (length js) ≤ n → length cs ≡ n
      → in_front (put (take n ms) cs) (compose p n (drop n ks) (drop n ms) (drop n js)) ≡ merged (put ms cs)
  composed_all ks ms js n cs most len =
      ap (in_front (put (take n ms) cs)) (short n (drop n ks) (drop n ms) (drop n js) (one_is_short ks ms js n most))
      ∙ ap (λ i. merged (put (take i ms) cs ++ drop i ms)) (sym len) ∙ ap merged (put_split ms cs)
