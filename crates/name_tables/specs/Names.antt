-- Names, which are byte strings.
use Rattle.std.specs.Prelude.{ℕ, List}
-- whether two names have the same bytes
pub use Rattle.std.specs.Str.{bytes_eq as same}

abbrev pub Name : Type 0
Name = List ℕ
