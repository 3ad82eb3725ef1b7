-- Rows, word by word.
use Rattle.std.proofs.Common.{◌≡◌, ◌∙◌, ap, sym, refl, ℕ, ◌+◌, ◌<◌, ◌≤◌, List, [], ◌∷◌, ◌++◌, length, take, drop, set, get_or, Option, Some, None, Ok, Err, arith}
use Rattle.std.proofs.lemmas.List.{drop_more, drop_all, take_all, take_more_set}
use Rattle.rev_num.specs.declared.value.NumFault.{NumFault}
use Rattle.version_map.specs.Composing.{Merges}
use Rattle.version_map.specs.Eights.{before_word, and_words, merged_row}

-- what is left, behind words that are known
abbrev pub behind : List ℕ → Option (List ℕ) → Option (List ℕ)
behind [] o = o
behind (x ∷ xs) o = before_word x (behind xs o)

behind_more : (xs : List ℕ) (x : ℕ) (o : Option (List ℕ)) → behind xs (before_word x o) ≡ behind (xs ++ x ∷ []) o
behind_more [] x o = refl
behind_more (y ∷ ys) x o = ap (before_word y) (behind_more ys x o)

behind_none : (xs : List ℕ) → behind xs None ≡ None
behind_none [] = refl
behind_none (x ∷ xs) = ap (before_word x) (behind_none xs)

behind_all : (xs : List ℕ) → behind xs (Some []) ≡ Some xs
behind_all [] = refl
behind_all (x ∷ xs) = ap (before_word x) (behind_all xs)

-- the row from number k on
abbrev pub row_from : Merges ℕ → ℕ → (xs ys zs : List ℕ) → ℕ → Option (List ℕ)
row_from m l xs ys zs k = merged_row m (l + k) (drop k xs) (drop k ys) (drop k zs)

module _ (m : Merges ℕ) (l : ℕ) (xs ys zs : List ℕ) (i : ℕ) where
  abbrev left : ℕ → Option (List ℕ)
  left k = row_from m l xs ys zs k

  here : i < length xs → i < length ys → i < length zs
      → left i ≡ and_words (m (l + i) (get_or xs i 0) (get_or ys i 0) (get_or zs i 0)) (left (i + 1))
  here h j k =
      let next : l + i + 1 ≡ l + (i + 1) = omega arith in
      (λ t. merged_row m (l + i) (drop_more xs i 0 h t) (drop_more ys i 0 j t) (drop_more zs i 0 k t))
      ∙ ap (λ n.
      and_words (m (l + i) (get_or xs i 0) (get_or ys i 0) (get_or zs i 0))
      (merged_row m n (drop (i + 1) xs) (drop (i + 1) ys) (drop (i + 1) zs)))
      next

  pub row_goes_on : (values : List ℕ) (v : ℕ) (c : Option (List ℕ)) → i < length xs → i < length ys → i < length zs
      → i < length values
      → Ok v ≡ m (l + i) (get_or xs i 0) (get_or ys i 0) (get_or zs i 0)
      → c ≡ behind (take i values) (left i) → c ≡ behind (take (i + 1) (set values i v)) (left (i + 1))
  row_goes_on values v c h j k n is so =
      so ∙ (ap (behind (take i values)) (here h j k ∙ ap (λ r. and_words r (left (i + 1))) (sym is))
      ∙ (behind_more (take i values) v (left (i + 1))
      ∙ ap (λ ws. behind ws (left (i + 1))) (sym (take_more_set values i v n))))

  pub row_stops : (values : List ℕ) (f : NumFault) (c : Option (List ℕ)) → i < length xs → i < length ys → i < length zs
      → Err f ≡ m (l + i) (get_or xs i 0) (get_or ys i 0) (get_or zs i 0)
      → c ≡ behind (take i values) (left i) → None ≡ c
  row_stops values f c h j k is so =
      sym (so
      ∙ (ap (behind (take i values)) (here h j k ∙ ap (λ r. and_words r (left (i + 1))) (sym is))
      ∙ behind_none (take i values)))

  pub row_ends : (values : List ℕ) (c : Option (List ℕ)) → length xs ≤ i → length values ≤ i
      → c ≡ behind (take i values) (left i) → Some values ≡ c
  row_ends values c h n so =
      sym (so
      ∙ ((λ t. behind (take_all i values n t) (merged_row m (l + i) (drop_all i xs h t) (drop i ys) (drop i zs)))
      ∙ behind_all values))
