-- A base, one word for each location, and the base under a delta.
--   under d base l   the word that d has for the location l, or else the base's
--   Agree n f g      f and g have the same words at the first n locations
use Rattle.std.specs.Prelude.{◌≡◌, ℕ, ◌<◌, Option, None, Some}
use Rattle.version_map.specs.declared.delta.Delta.{Delta}
use Rattle.version_map.specs.Deltas.{at}

abbrev pub word_or : ℕ → Option ℕ → ℕ
word_or word None = word
word_or word (Some w) = w

abbrev pub under : Delta → (ℕ → ℕ) → ℕ → ℕ
under d base l = word_or (base l) (at d l)

abbrev pub Agree : ℕ → (ℕ → ℕ) → (ℕ → ℕ) → Type 0
Agree n f g = (l : ℕ) → l < n → f l ≡ g l
