-- The line of a Print, on words without a kind.
--   item_bytes   what stands for an item, with this word for its value
--   width_of     how many words an item takes
--   bytes_from   what stands for items, whose first value lies at this place, with a gap before the first
use Rattle.std.specs.Prelude.{ℕ, zero, suc, ◌+◌, not, nat_eq, List, [], ◌∷◌, ◌++◌, slice_index_or}
use Rattle.std.specs.Fmt.{signed_decimal}
use Rattle.rev_num.specs.Words.{int_of}
use Rattle.rev_code.specs.declared.code.LayoutItem.{LayoutItem}
use Rattle.rev_code.specs.declared.code.LayoutItem.TheVariants as item
use Rattle.rev_code.specs.Words.{bool}
use Rattle.rev_code.specs.Printing.{text_at, word_text}

abbrev pub item_bytes : List (List ℕ) → LayoutItem → (word : ℕ) → List ℕ
item_bytes texts (item.Text n) w = text_at texts n
item_bytes texts item.Int w = signed_decimal (int_of w)
item_bytes texts item.Bool w = word_text {H = ℕ} (bool (not (nat_eq w 0)))

abbrev pub width_of : LayoutItem → ℕ
width_of (item.Text n) = 0
width_of item.Int = 1
width_of item.Bool = 1

abbrev pub widths : List LayoutItem → ℕ
widths [] = 0
widths (x ∷ items) = width_of x + widths items

-- a space, but for the first item
abbrev pub gap_at : ℕ → List ℕ
gap_at zero = []
gap_at (suc n) = 32 ∷ []

abbrev pub bytes_from : (gap : List ℕ) → List (List ℕ) → List LayoutItem → (words : List ℕ) → (at : ℕ) → List ℕ
bytes_from gap texts [] ws at = []
bytes_from gap texts (x ∷ items) ws at =
    gap ++ (item_bytes texts x (slice_index_or ws at 0) ++ bytes_from (32 ∷ []) texts items ws (at + width_of x))
