-- What a step keeps and changes of its seat.
use Rattle.std.specs.Prelude.{◌≡◌, ℕ}
use mathlib.Core.Option.{some}
use Rattle.sparse_table.specs.Seats.{view, number, known}
use Rattle.sparse_table.specs.Parts as parts
use Rattle.segment_store.specs.declared.board.SegmentView.{SegmentView}
use Rattle.segment_store.specs.Entry.{Entry}
use Rattle.segment_store.specs.Places.{Place, seat_name}
use Rattle.segment_store.specs.Store.{Has, look}

abbrev pub IsSameSeat : Place → Place → Type 0
IsSameSeat s t = (seat_name t ≡ seat_name s) × (number t ≡ number s) × (view t ≡ view s)

-- the seat with the view v
abbrev pub Becomes : Place → Place → SegmentView → Type 0
Becomes s t v = (seat_name t ≡ seat_name s) × (number t ≡ number s) × (view t ≡ v)

-- the seat knows that the memory of the segment was written
abbrev pub IsAttached : Place → ℕ → Type 0
IsAttached s c = parts.Has c (known s)

-- x is the word i, where a segment of the chain has it
abbrev pub IsWord : Place → ℕ → ℕ → Type 0
IsWord s i x = (e : Entry) (w : ℕ) → Has e (view s).chain → look e.body i ≡ some w → x ≡ w
