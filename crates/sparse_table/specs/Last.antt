-- The words of a closed table, as its user sees them.
use Rattle.std.specs.Prelude.{ℕ, List}
use Rattle.sparse_table.specs.declared.closed.Closed.{Closed}
use Rattle.sparse_table.specs.Ended.{words_in}

abbrev pub words_of : Closed → List ℕ
words_of c = words_in c.len c.width c.shift c.span.items
