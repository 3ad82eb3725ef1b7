-- The declarations of a program whose applications are numbered.
use Rattle.std.specs.Prelude.{List, map}
use Rattle.rev_syntax.specs.Trees.{Declaration}
use Rattle.rev_syntax.specs.View.{declaration}
use Rattle.typed_programs.specs.declared.expanded.Expanded.{Expanded}

abbrev pub declared_by : Expanded → List Declaration
declared_by x = map declaration x.program.decls.items
