-- Names of locations.
--   is_plain        digits without a needless zero
--   IsPlace         the bytes name a location: a variable, or a cell of an array
use Rattle.std.specs.Prelude.{◌≡◌, ℕ, Bool, false, not, ◌&&◌, ◌||◌, ◌==◌, ◌⊎◌, IsTrue, List, [], ◌∷◌, ◌++◌, length}
use Rattle.std.specs.List.{list_all}
use Rattle.rev_syntax.specs.Bytes.{is_digit}
use Rattle.rev_syntax.specs.Words.{is_name}

-- one or more digits, of which the first is a zero only where it is the only one
abbrev pub is_plain : List ℕ → Bool
is_plain [] = false
is_plain (d ∷ ds) = list_all is_digit (d ∷ ds) && (not (d == 48) || (length ds == 0))

-- a name, and a number of any size in brackets
pub record IsCell (place : List ℕ) : Type 0 where
  pub array : List ℕ
  pub index : List ℕ
  pub name : IsTrue (is_name array)
  pub number : IsTrue (is_plain index)
  pub is : place ≡ array ++ (91 ∷ index ++ 93 ∷ [])

-- a variable, or a cell of an array
abbrev pub IsPlace : List ℕ → Type 0
IsPlace place = IsTrue (is_name place) ⊎ IsCell place

-- the bytes behind the opening bracket, and the name before it, are a cell of an array
pub record HasCell (array cell : List ℕ) : Type 0 where
  pub index : List ℕ
  pub name : IsTrue (is_name array)
  pub number : IsTrue (is_plain index)
  pub is : cell ≡ index ++ 93 ∷ []
