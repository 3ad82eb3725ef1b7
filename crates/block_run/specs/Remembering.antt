-- What a revision's memory has: for each location the word that it sees, and, where it has written, the word that was
-- there when it was forked.
--   Kept     no word changed, and none at the fork
--   Remembered   no word changed, and the word at the fork is known at a location
--   written_below   the locations that were written, with the word there and the word at the fork
--   Wrote    one location has a new word, and the word at the fork is known there
--   written_count   how many locations were written
--   HasRoom  an empty list with room for that many
use Rattle.std.specs.Prelude.{zero, suc, List, [], ◌∷◌, ◌++◌, ℕ, ◌≡◌, ◌≢◌, ◌<◌, ◌≤◌, ◌+◌, Option, None, Some, vec_len, vec_capacity, Vec}
use Rattle.std.specs.declared.alloc.Global.{Global}
use Rattle.version_map.specs.declared.end.Written.{Written}
use Rattle.version_map.specs.Overlay.{word_or, Agree}

pub record Kept (size : ℕ) (seen seen' : ℕ → ℕ) (root root' : ℕ → Option ℕ) : Type 0 where
  pub words : Agree size seen' seen
  pub roots : (l : ℕ) → l < size → root' l ≡ root l

pub record Remembered (size : ℕ) (seen seen' : ℕ → ℕ) (root root' : ℕ → Option ℕ) (at : ℕ) : Type 0 where
  pub words : Agree size seen' seen
  pub here : root' at ≡ Some (word_or (seen at) (root at))
  pub others : (l : ℕ) → l < size → l ≢ at → root' l ≡ root l

pub record Wrote (size : ℕ) (seen seen' : ℕ → ℕ) (root root' : ℕ → Option ℕ) (at word : ℕ) : Type 0 where
  pub within : at < size
  pub here : seen' at ≡ word
  pub others : (l : ℕ) → l < size → l ≢ at → seen' l ≡ seen l
  pub root_here : root' at ≡ Some (word_or (seen at) (root at))
  pub root_others : (l : ℕ) → l < size → l ≢ at → root' l ≡ root l

-- ---- what a revision leaves of its memory

abbrev pub written_there : ℕ → (word : ℕ) → Option ℕ → List Written
written_there l word None = []
written_there l word (Some root) = record { location = l; value = word; root = root } ∷ []

-- of the first n locations, in ascending order, those that were written
abbrev pub written_below : (seen : ℕ → ℕ) → (root : ℕ → Option ℕ) → ℕ → List Written
written_below seen root zero = []
written_below seen root (suc n) = written_below seen root n ++ written_there n (seen n) (root n)

-- ---- the room for that

abbrev pub one_there : Option ℕ → ℕ
one_there None = 0
one_there (Some root) = 1

-- of the first n locations, how many were written
abbrev pub written_count : (root : ℕ → Option ℕ) → ℕ → ℕ
written_count root zero = 0
written_count root (suc n) = written_count root n + one_there (root n)

-- an empty list that takes what was written without memory
abbrev pub HasRoom : Vec Written Global → (root : ℕ → Option ℕ) → ℕ → Type 0
HasRoom list root n = (vec_len list ≡ 0) × (written_count root n ≤ vec_capacity list)
