-- `main` before its first leg.
--   words_at_start   the words with which the locations of all variables start
--   AreShort         words of 64 bits
--   StartsWith       words of locations that are those
use Rattle.std.specs.Prelude.{ℕ, ◌≡◌, ◌<◌, ◌^◌, List, [], ◌∷◌, ◌++◌, replicate, Some, slice_get}
use Rattle.rev_code.specs.declared.code.CodeVar.{CodeVar}

abbrev pub words_at_start : List CodeVar → List ℕ
words_at_start [] = []
words_at_start (v ∷ vs) = replicate v.cells v.start ++ words_at_start vs

abbrev pub AreShort : List ℕ → Type 0
AreShort ws = (l w : ℕ) → slice_get ws l ≡ Some w → w < 2 ^ 64

abbrev pub StartsWith : List CodeVar → (base : ℕ → ℕ) → Type 0
StartsWith vars base =
    (l w : ℕ) → slice_get (words_at_start vars) l ≡ Some w → (base l ≡ w) × (w < 2 ^ 64)
