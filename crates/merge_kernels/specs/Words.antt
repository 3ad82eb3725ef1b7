-- Merges of words by definitions.
--   word_answer   the word of a number, or the fault
--   merged        the merge of three words by a definition
--   merged_lanes  the merges of words in lanes by a definition, or none where one faults
--   overlaid      the merges that a plan makes: by the chosen definition, or else those of another
--   Agrees        where a definition was chosen, the merge of each three words is its value
--   AreAlike      two merges of words that give the same
use Rattle.std.specs.Prelude.{◌≡◌, ◌<◌, ◌^◌, ℕ, ℤ, List, map, option_map, Option, Some, None, Result, Ok, Err}
use Rattle.rev_num.specs.declared.value.NumFault.{NumFault}
use Rattle.rev_num.specs.Words.{int_of, word_of}
use Rattle.rev_syntax.specs.Trees.{Expression}
use Rattle.version_map.specs.Composing.{Merges}
use Rattle.merge_kernels.specs.Lanes.{lanes_answer}
use Rattle.merge_kernels.specs.Terms.{answer_of}
use Rattle.merge_kernels.specs.Plans.{chosen_at}

abbrev pub word_answer : Result ℤ NumFault → Result ℕ NumFault
word_answer (Ok z) = Ok (word_of z)
word_answer (Err f) = Err f

abbrev pub merged : Expression → (main join root : ℕ) → Result ℕ NumFault
merged e main join root = word_answer (answer_of e (int_of main) (int_of join) (int_of root))

abbrev pub merged_lanes : Expression → (mains joins roots : List ℕ) → Option (List ℕ)
merged_lanes e mains joins roots =
    option_map (map word_of)
    (lanes_answer (answer_of e) (map int_of mains) (map int_of joins) (map int_of roots))

abbrev pub merged_or : Option Expression → (other : ℕ → ℕ → ℕ → Result ℕ NumFault) → (main join root : ℕ)
    → Result ℕ NumFault
merged_or (Some e) other = merged e
merged_or None other = other

abbrev pub overlaid : List (Option ℕ) → List Expression → Merges ℕ → Merges ℕ
overlaid choices kernels merges location = merged_or (chosen_at choices kernels location) (merges location)

abbrev pub AreAlike : Merges ℕ → Merges ℕ → Type 0
AreAlike a b =
    (location main join root : ℕ) → main < 2 ^ 64 → join < 2 ^ 64 → root < 2 ^ 64
    → a location main join root ≡ b location main join root

abbrev pub Agrees : List (Option ℕ) → List Expression → Merges ℕ → Type 0
Agrees choices kernels merges =
    (location : ℕ) (e : Expression) → chosen_at choices kernels location ≡ Some e
    → (main join root : ℕ) → main < 2 ^ 64 → join < 2 ^ 64 → root < 2 ^ 64
    → merges location main join root ≡ merged e main join root
