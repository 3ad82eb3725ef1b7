-- A seat of a store's table.
--   Place      its type
--   room       how many words the table has
--   size_of    what the table's rule was told
-- A seat's view, its number among all seats, and the names by which a seat is of a table are those of
-- sparse_table.
use Rattle.std.specs.Prelude.{ℕ}
pub use Rattle.sparse_table.specs.Seats.{view, number, seat_name, table_name}
use Rattle.sparse_table.specs.declared.table.Seat.{Seat}
use Rattle.sparse_table.specs.declared.table.Table.{Table}
use Rattle.segment_store.specs.declared.board.SegmentView.{SegmentView}

abbrev pub Place : Type 0
Place = Seat SegmentView

abbrev pub room : Place → ℕ
room s = s.pass.view.trail.words

abbrev pub size_of : {V K P : Type 0} → Table V K P → K
size_of t = t.words.key.about
