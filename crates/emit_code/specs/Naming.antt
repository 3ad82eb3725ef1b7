-- What tables of names say, as the definition of code asks for it.
use Rattle.std.specs.Prelude.{ℕ, Bool, false, Option, Some, None}
use Rattle.name_tables.specs.Names.{Name}
use Rattle.name_tables.specs.Table.{find}
use Rattle.code_generation.specs.Numbers.{Numbers}
use Rattle.emit_code.specs.declared.known.Numbered.{Numbered}
use Rattle.emit_code.specs.declared.known.NameNumbers.{NameNumbers}

abbrev pub or_next : ℕ → Option ℕ → ℕ
or_next next (Some n) = n
or_next next None = next

-- the number of a name
abbrev pub number_in : Numbered → Name → ℕ
number_in t name = or_next t.next (find name t.table)

abbrev pub gives_in : Option Bool → Bool
gives_in (Some gives) = gives
gives_in None = false

abbrev pub numbers_of : NameNumbers → Numbers
numbers_of t = record {
  var = number_in t.vars;
  fun = number_in t.funs;
  proc = number_in t.procs;
  gives = λ name. gives_in (find name t.gives);
}
