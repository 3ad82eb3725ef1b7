-- The line that a Print writes.
use Rattle.std.specs.Prelude.{ℕ, true, false, List, [], ◌∷◌, ◌++◌, codes, Some, None, slice_get}
use Rattle.std.specs.Fmt.{signed_decimal}
use Rattle.std.specs.List.{join_with_byte}
use Rattle.rev_num.specs.declared.value.ValueKind.{ValueKind}
use Rattle.rev_num.specs.declared.value.ValueKind.TheVariants as k
use Rattle.rev_code.specs.declared.code.LayoutItem.{LayoutItem}
use Rattle.rev_code.specs.declared.code.LayoutItem.TheVariants as item
use Rattle.rev_code.specs.Words.{Word, int, bool, rev}

-- the kinds of the values that a layout prints, in order
abbrev pub printed_kinds : List LayoutItem → List ValueKind
printed_kinds [] = []
printed_kinds (item.Int ∷ items) = k.Int ∷ printed_kinds items
printed_kinds (item.Bool ∷ items) = k.Bool ∷ printed_kinds items
printed_kinds (item.Text n ∷ items) = printed_kinds items

-- an int in decimal, with a minus where it is below 0; a bool as `true` or `false`; a handle is never printed
abbrev pub word_text : {H : Type 0} → Word H → List ℕ
word_text (int n) = signed_decimal n
word_text (bool true) = codes "true"
word_text (bool false) = codes "false"
word_text (rev h) = []

abbrev pub text_at : List (List ℕ) → ℕ → List ℕ
text_at texts n = elim (slice_get texts n) [ None ↦ [] | Some t ↦ t ]

-- what stands for the items of a layout, with these values for those that are no texts
abbrev pub pieces : {H : Type 0} → List (List ℕ) → List LayoutItem → List (Word H) → List (List ℕ)
pieces texts [] ws = []
pieces texts (item.Text n ∷ items) ws = text_at texts n ∷ pieces texts items ws
pieces texts (item.Int ∷ items) [] = []
pieces texts (item.Int ∷ items) (w ∷ ws) = word_text w ∷ pieces texts items ws
pieces texts (item.Bool ∷ items) [] = []
pieces texts (item.Bool ∷ items) (w ∷ ws) = word_text w ∷ pieces texts items ws

-- the pieces with a space between two of them, and a line feed
abbrev pub line_of : {H : Type 0} → List (List ℕ) → List LayoutItem → List (Word H) → List ℕ
line_of texts items ws = join_with_byte 32 (pieces texts items ws) ++ 10 ∷ []
