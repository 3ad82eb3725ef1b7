-- Elements of lists, and handles in them.
use Rattle.std.proofs.Common.{◌≡◌, ◌∙◌, ◌⊎◌, inl, inr, ℕ, zero, suc, ◌+◌, ◌<◌, ◌≤◌, List, [], ◌∷◌, ◌++◌, append_assoc, append-nil, length, map, drop, get_or, Some, refl, sym, ap}
use Rattle.std.proofs.lemmas.List.{drop_all, drop_more}
use Rattle.std.specs.Prelude.{slice_get}
use Rattle.rev_num.specs.Path.{Path}
use Rattle.rev_num.proofs.Options.{none_some, some_eq}
use Rattle.rev_num.proofs.Lists.{get_append_left}
use Rattle.revision_machine.specs.Laws.{IsIn}
use Rattle.rev_record.specs.Standing.{Has}

-- ---- elements

module _ {A : Type 0} where
  pub heads : (x y : A) (xs ys : List A) → x ∷ xs ≡ y ∷ ys → x ≡ y
  heads x y xs ys e = cc

  pub tails : (x y : A) (xs ys : List A) → x ∷ xs ≡ y ∷ ys → xs ≡ ys
  tails x y xs ys e = cc

  pub has_first : (x : A) (xs : List A) → Has (x ∷ xs) x
  has_first x xs = (0, refl)

  pub has_later : (x y : A) (xs : List A) → Has xs x → Has (y ∷ xs) x
  has_later x y xs h = (suc h.0, h.1)

  pub has_one : (x y : A) (xs : List A) → Has (y ∷ xs) x → (x ≡ y) ⊎ Has xs x
  has_one x y xs h = by h.0 h.1
    where
      by : (i : ℕ) → slice_get (y ∷ xs) i ≡ Some x → (x ≡ y) ⊎ Has xs x
      by zero e = inl (sym (some_eq e))
      by (suc i) e = inr (i, e)

  pub has_none : {P : Type 0} (x : A) → Has [] x → P
  has_none x h = none_some h.1

  -- one element more at the end
  pub has_before : (xs ys : List A) (x : A) → Has xs x → Has (xs ++ ys) x
  has_before xs ys x h = (h.0, get_append_left xs ys h.0 x h.1)

  pub has_last : (xs : List A) (x : A) → Has (xs ++ x ∷ []) x
  has_last [] x = (0, refl)
  has_last (y ∷ xs) x = has_later x y (xs ++ x ∷ []) (has_last xs x)

  pub has_either : (xs : List A) (y x : A) → Has (xs ++ y ∷ []) x → Has xs x ⊎ (x ≡ y)
  has_either [] y x h = by (has_one x y [] h)
    where
      by : (x ≡ y) ⊎ Has [] x → Has [] x ⊎ (x ≡ y)
      by (inl e) = inr e
      by (inr k) = inl k
  has_either (z ∷ xs) y x h = by (λ k. has_either xs y x k) (has_one x z (xs ++ y ∷ []) h)
    where
      by : (Has (xs ++ y ∷ []) x → Has xs x ⊎ (x ≡ y)) → (x ≡ z) ⊎ Has (xs ++ y ∷ []) x → Has (z ∷ xs) x ⊎ (x ≡ y)
      by rec (inl e) = inl (0, ap Some (sym e))
      by rec (inr k) = later (rec k)
        where
          later : Has xs x ⊎ (x ≡ y) → Has (z ∷ xs) x ⊎ (x ≡ y)
          later (inl j) = inl (has_later x z xs j)
          later (inr e) = inr e

-- ---- a loop that pushes f of each element

module _ {A B : Type 0} (f : A → B) (xs : List A) (n : ℕ) where
  pub one_done : (d : A) (out new whole : List B) → n < length xs → new ≡ out ++ f (get_or xs n d) ∷ []
      → out ++ map f (drop n xs) ≡ whole → new ++ map f (drop (n + 1) xs) ≡ whole
  one_done d out new whole less pushed so_far =
      let split : map f (drop n xs) ≡ f (get_or xs n d) ∷ map f (drop (n + 1) xs) =
      ap (map f) (drop_more xs n d less) in
      ap (λ l. l ++ map f (drop (n + 1) xs)) pushed
      ∙ append_assoc out (f (get_or xs n d) ∷ []) (map f (drop (n + 1) xs)) ∙ ap (λ l. out ++ l) (sym split) ∙ so_far

  pub all_done : (out whole : List B) → length xs ≤ n → out ++ map f (drop n xs) ≡ whole → out ≡ whole
  all_done out whole few so_far =
      sym (append-nil out) ∙ ap (λ l. out ++ l) (sym (ap (map f) (drop_all n xs few))) ∙ so_far

-- ---- handles

pub either : (ps qs : List Path) (q : Path) → IsIn q (ps ++ qs) → IsIn q ps ⊎ IsIn q qs
either [] qs q i = inr i
either (p ∷ ps) qs q (inl e) = inl (inl e)
either (p ∷ ps) qs q (inr i) = by (either ps qs q i)
  where
    by : IsIn q ps ⊎ IsIn q qs → ((q ≡ p) ⊎ IsIn q ps) ⊎ IsIn q qs
    by (inl j) = inl (inr j)
    by (inr j) = inr j
