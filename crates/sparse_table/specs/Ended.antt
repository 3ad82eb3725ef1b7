-- The words of a table at its start and at its end.
--   first_words        so many words, the first of them this one, and the others 0
--   words_in           the words that a user sees, by the words that lie there
--   Ending             what is known of the words that lie there, at the end
--   AreLast            the words of a state that meets the rule
use Rattle.std.specs.Prelude.{◌≡◌, ℕ, ◌-◌, ◌%◌, ◌<◌, ◌≤◌, ◌==◌, cond, List, [], map, slice_index}
use Rattle.std.specs.Prelude.{replicate, slice_set}
use Rattle.std.specs.List.{range_with_len}
use Rattle.atomic_table.specs.Table as table
use Rattle.sparse_table.specs.Words.{blank}
use Rattle.sparse_table.specs.Parts.{IsPart, head_at, flag_at}

abbrev pub first_words : ℕ → ℕ → List ℕ
first_words n x = slice_set (replicate n 0) 0 x

-- the part of which this is a word
abbrev pub part_of : ℕ → ℕ → ℕ
part_of width i = i - i % width

-- A first word lies behind, and a word of a part that is not there is 0
abbrev pub word_in : ℕ → ℕ → ℕ → List ℕ → ℕ → ℕ
word_in words width shift ns i = cond (i % width == 0) (slice_index ns (head_at words shift i))
    (cond (slice_index ns (flag_at words shift (part_of width i)) == 1) (slice_index ns i) 0)

unfoldable pub words_in : ℕ → ℕ → ℕ → List ℕ → List ℕ
words_in words width shift ns = map (word_in words width shift ns) (range_with_len 0 words)

pub record Ending (words width shift total : ℕ) (ns : List ℕ) : Type 0 where
  pub numbers : (j : ℕ) → words ≤ j → slice_index ns j < blank
  -- where no part is being made, no word is away
  pub here : ((c : ℕ) → IsPart words width c → ¬ (slice_index ns (flag_at words shift c) ≡ 2))
      → (j : ℕ) → j < total → slice_index ns j ≤ blank

abbrev pub AreLast : {V : Type 0} → (table.State (Unit {0}) V → Type 0) → List ℕ → Type 0
AreLast {V} holds ws = (s : table.State (Unit {0}) V) × holds s × (s.words ≡ ws) × (s.homes ≡ [])
