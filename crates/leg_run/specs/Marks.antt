-- What is noted of reads.
--   mark_of    of one
--   marks_of   of several, without their values
use Rattle.std.specs.Prelude.{List, map}
use Rattle.code_machine_laws.specs.Reads as reads
use Rattle.code_machine_laws.specs.Reads.{Read}
pub use Rattle.block_run.specs.Marks.{Mark, location, input, count, has_location, has_input, has_count, HasMarked}

abbrev pub mark_of : {H : Type 0} → Read H → Mark
mark_of (reads.location n w) = location n
mark_of (reads.input n z) = input n
mark_of (reads.count k) = count

abbrev pub marks_of : {H : Type 0} → List (Read H) → List Mark
marks_of rs = map mark_of rs
