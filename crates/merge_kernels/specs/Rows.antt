-- The merges of eight written locations by one definition.
--   HasPutValues   there is an answer for eight lanes, and its words were put at a place
--   HasPutRow      the merges of eight written locations were put there
--   AreValues      the merges of so many locations from one on are the values of a definition
use Rattle.std.specs.Prelude.{◌≡◌, ◌<◌, ◌+◌, ℕ, ℤ, List, ◌++◌, length, take, drop, map, Option, Some}
use Rattle.rev_num.specs.Words.{word_of}
use Rattle.rev_syntax.specs.Trees.{Expression}
use Rattle.version_map.specs.declared.end.Written.{Written}
use Rattle.version_map.specs.Composing.{Merges}
use Rattle.merge_kernels.specs.Words.{merged, merged_lanes}

-- these words were put behind those before the place
abbrev pub HasPutWords : (words : List ℕ) → (at : ℕ) → (old new : List ℕ) → Type 0
HasPutWords words at old new = (length words ≡ 8) × (take (at + 8) new ≡ take at old ++ words)

abbrev pub HasPutValues : Option (List ℤ) → (at : ℕ) → (old new : List ℕ) → Type 0
HasPutValues answer at old new = (ints : List ℤ) × (answer ≡ Some ints) × HasPutWords (map word_of ints) at old new

abbrev pub HasPutRow : Expression → (mains : List ℕ) → List Written → (at : ℕ) → (old new : List ℕ) → Type 0
HasPutRow e mains ws at old new =
    (words : List ℕ)
    × (merged_lanes e (take 8 (drop at mains)) (map (λ w. w.value) (take 8 (drop at ws)))
    (map (λ w. w.root) (take 8 (drop at ws)))
    ≡ Some words)
    × HasPutWords words at old new

abbrev pub AreValues : Expression → Merges ℕ → (first n : ℕ) → Type 0
AreValues e merges first n =
    (k : ℕ) → k < n → (main join root : ℕ) → merges (first + k) main join root ≡ merged e main join root
