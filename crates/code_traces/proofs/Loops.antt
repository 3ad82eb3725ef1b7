-- Loops over a list of which each element gives a part of what is made.
use Rattle.std.proofs.Common.{◌≡◌, ◌∙◌, ℕ, zero, suc, ◌+◌, ◌<◌, ◌≤◌, List, [], ◌∷◌, ◌++◌, append_assoc, append-nil, length, drop, get_or, replicate, Some, refl, sym, ap, arith}
use Rattle.std.proofs.lemmas.List.{drop_all, drop_more}
use Rattle.rev_report.specs.Outcome.{place_of}
use Rattle.code_traces.specs.Parts.{cell_places}

module _ {A B : Type 0} (F : List A → List B) (f : A → List B) (step : (x : A) (xs : List A) → F (x ∷ xs) ≡ f x ++ F xs)
    (xs : List A) (n : ℕ) where
  -- one element less to come
  pub one_done : (x : A) (out new whole : List B) → n < length xs → x ≡ get_or xs n x → new ≡ out ++ f x
      → out ++ F (drop n xs) ≡ whole → new ++ F (drop (n + 1) xs) ≡ whole
  one_done x out new whole less is pushed so_far =
      let front : drop n xs ≡ x ∷ drop (n + 1) xs = drop_more xs n x less ∙ ap (λ v. v ∷ drop (n + 1) xs) (sym is) in
      let split : F (drop n xs) ≡ f x ++ F (drop (n + 1) xs) = ap F front ∙ step x (drop (n + 1) xs) in
      ap (λ l. l ++ F (drop (n + 1) xs)) pushed ∙ append_assoc out (f x) (F (drop (n + 1) xs))
      ∙ ap (λ l. out ++ l) (sym split) ∙ so_far

  -- with the element as it is read
  pub read_done : (d : A) (out new whole : List B) → n < length xs → new ≡ out ++ f (get_or xs n d)
      → out ++ F (drop n xs) ≡ whole → new ++ F (drop (n + 1) xs) ≡ whole
  read_done d out new whole less pushed so_far =
      let split : F (drop n xs) ≡ f (get_or xs n d) ++ F (drop (n + 1) xs) =
      ap F (drop_more xs n d less) ∙ step (get_or xs n d) (drop (n + 1) xs) in
      ap (λ l. l ++ F (drop (n + 1) xs)) pushed ∙ append_assoc out (f (get_or xs n d)) (F (drop (n + 1) xs))
      ∙ ap (λ l. out ++ l) (sym split) ∙ so_far

  pub all_done : F [] ≡ [] → (out whole : List B) → length xs ≤ n → out ++ F (drop n xs) ≡ whole → out ≡ whole
  all_done none out whole few so_far =
      sym (append-nil out) ∙ ap (λ l. out ++ l) (sym (ap F (drop_all n xs few) ∙ none)) ∙ so_far

-- the places of one more cell
cells_end : (name : List ℕ) (cell n : ℕ)
    → cell_places name cell n ++ place_of name (Some (cell + n)) ∷ [] ≡ cell_places name cell (suc n)
cells_end name cell zero = let e : cell + 0 ≡ cell = omega arith in ap (λ m. place_of name (Some m) ∷ []) e
cells_end name cell (suc n) =
    let e : cell + suc n ≡ suc cell + n = omega arith in
    ap (λ m. (place_of name (Some cell) ∷ cell_places name (suc cell) n) ++ place_of name (Some m) ∷ []) e
    ∙ ap (λ l. place_of name (Some cell) ∷ l) (cells_end name (suc cell) n)

pub more_cells : (name : List ℕ) (before out new : List (List ℕ)) (n : ℕ) (place : List ℕ)
    → place ≡ place_of name (Some n) → new ≡ out ++ place ∷ [] → out ≡ before ++ cell_places name 0 n
    → new ≡ before ++ cell_places name 0 (n + 1)
more_cells name before out new n place is pushed so_far =
    let e : suc n ≡ n + 1 = omega arith in
    let z : n ≡ 0 + n = omega arith in
    pushed ∙ ap (λ v. out ++ v ∷ []) (is ∙ ap (λ m. place_of name (Some m)) z)
    ∙ ap (λ l. l ++ place_of name (Some (0 + n)) ∷ []) so_far
    ∙ append_assoc before (cell_places name 0 n) (place_of name (Some (0 + n)) ∷ [])
    ∙ ap (λ l. before ++ l) (cells_end name 0 n ∙ ap (cell_places name 0) e)

copies_end : {A : Type 0} (n : ℕ) (x : A) → replicate n x ++ x ∷ [] ≡ replicate (suc n) x
copies_end zero x = refl
copies_end (suc n) x = ap (λ l. x ∷ l) (copies_end n x)

pub more_copies : {A : Type 0} (before out new : List A) (n : ℕ) (x : A) → new ≡ out ++ x ∷ []
    → out ≡ before ++ replicate n x → new ≡ before ++ replicate (n + 1) x
more_copies before out new n x pushed so_far =
    let e : suc n ≡ n + 1 = omega arith in
    pushed ∙ ap (λ l. l ++ x ∷ []) so_far ∙ append_assoc before (replicate n x) (x ∷ [])
    ∙ ap (λ l. before ++ l) (copies_end n x ∙ ap (λ m. replicate m x) e)
