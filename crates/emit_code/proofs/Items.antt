-- The values of a print, one after another.
use Rattle.std.proofs.Common.{◌≡◌, ℕ, ◌+◌, List, ◌∷◌, ◌++◌, length, refl, ap, sym, ◌∙◌, arith, append_assoc, length-append}
use Rattle.rev_syntax.specs.Trees.{PrintItem, text, shown}
use Rattle.rev_code.specs.declared.code.Instr.{Instr}
use Rattle.code_generation.specs.Numbers.{Numbers, Scope}
use Rattle.code_generation.specs.Sizes.{items_size}
use Rattle.code_generation.specs.Statements.{items_code}
use Rattle.code_generation.proofs.Lengths.{expression_length}
use Rattle.emit_code.specs.Written.{item_size, item_code}

pub items_grow : (x : PrintItem) (xs : List PrintItem) → items_size (x ∷ xs) ≡ item_size x + items_size xs
items_grow (text p bytes) xs = let z : items_size xs ≡ 0 + items_size xs = omega arith in z
items_grow (shown e) xs = refl

module _ (n : Numbers) (scope : Scope) where
  first_item : (x : PrintItem) (xs : List PrintItem) (at : ℕ)
      → items_code n scope (x ∷ xs) at ≡ item_code n scope x at ++ items_code n scope xs (at + item_size x)
  first_item (text p bytes) xs at = let z : at ≡ at + 0 = omega arith in ap (λ k. items_code n scope xs k) z
  first_item (shown e) xs at = refl

  item-length : (x : PrintItem) (at : ℕ) → length (item_code n scope x at) ≡ item_size x
  item-length (text p bytes) at = refl
  item-length (shown e) at = expression_length n scope e at

  pub item_long : (x : PrintItem) (c c1 : List Instr) → c1 ≡ c ++ item_code n scope x (length c)
      → length c1 ≡ length c + item_size x
  item_long x c c1 e =
      let a = ap length e in
      let b = length-append c (item_code n scope x (length c)) in
      let l = item-length x (length c) in
      omega (arith, a, b, l)

  pub item_behind : (x : PrintItem) (xs : List PrintItem) (c c1 : List Instr) → c1 ≡ c ++ item_code n scope x (length c)
      → c1 ++ items_code n scope xs (length c1) ≡ c ++ items_code n scope (x ∷ xs) (length c)
  item_behind x xs c c1 e =
      ap (λ k. c1 ++ items_code n scope xs k) (item_long x c c1 e)
      ∙ ap (λ l. l ++ items_code n scope xs (length c + item_size x)) e
      ∙ append_assoc c (item_code n scope x (length c)) (items_code n scope xs (length c + item_size x))
      ∙ ap (λ l. c ++ l) (sym (first_item x xs (length c)))
