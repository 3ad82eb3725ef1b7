-- Lists of input numbers: as words, and as one text, of decimals with one comma between two of them.
use Rattle.std.specs.Prelude.{◌≡◌, ◌↔◌, ◌≤◌, ℕ, ℤ, true, List, [], ◌∷◌, length, Option, Some}
use Rattle.std.specs.List.{join_with_byte}
use Rattle.rev_num.specs.Arith.{fits_i64}
use Rattle.rev_num.specs.Decimal.{IsDecimal, decimal_in}
use Rattle.rev_words.specs.Each.{each_said, few_said, parts_said}

-- ---- the grammar

-- each is a decimal for the number at its place, which 64 bits hold
abbrev pub AreDecimals : List (List ℕ) → List ℤ → Type 0
AreDecimals [] [] = Unit {0}
AreDecimals (bytes ∷ rest) (n ∷ ns) = ((fits_i64 n ≡ true) × IsDecimal bytes n) × AreDecimals rest ns
AreDecimals [] (n ∷ ns) = ⊥
AreDecimals (bytes ∷ rest) [] = ⊥

-- the text spells these numbers, and none for the empty text
pub record AreNumbers (text : List ℕ) (numbers : List ℤ) : Type 0 where
  pub numerals : List (List ℕ)
  pub joined : text ≡ join_with_byte 44 numerals
  pub decimals : AreDecimals numerals numbers
  pub few : length numbers ≤ 1024

-- ---- the same as a function

-- the numbers that the texts spell, if each is a decimal in 64 bits
abbrev pub numbers_in : List (List ℕ) → Option (List ℤ)
numbers_in texts = each_said decimal_in texts

abbrev pub few_numbers_in : List (List ℕ) → Option (List ℤ)
few_numbers_in texts = few_said 1024 decimal_in texts

-- the numbers that a text spells
abbrev pub list_in : List ℕ → Option (List ℤ)
list_in text = parts_said 1024 decimal_in text

-- the function is exact for the grammar
abbrev pub ListsAreExact : Type 0
ListsAreExact = (text : List ℕ) (numbers : List ℤ) → (list_in text ≡ Some numbers) ↔ AreNumbers text numbers
