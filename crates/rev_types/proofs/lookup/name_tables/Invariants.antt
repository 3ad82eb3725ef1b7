-- Loops of name_tables: the three tables so far, with what the declarations left enter, are those of all.
use Rattle.std.proofs.Common.{◌≡◌, drop, map, []}
use Rattle.rev_syntax.specs.View.{declaration}
use Rattle.rev_types.specs.Tables as spec
use Rattle.rev_types.proofs.lookup.name_tables.Given as goal

abbrev pub invariant-loop-d : goal.invariant-loop-d
invariant-loop-d l = record {
  shared : spec.shared_table l.tables.shared (map declaration (drop l.d-index l.decls))
      ≡ spec.shared_table [] (map declaration l.decls);
  procs : spec.proc_table (spec.callees l.tables.procs) (map declaration (drop l.d-index l.decls))
      ≡ spec.proc_table [] (map declaration l.decls);
  funs : spec.fun_table (spec.callees l.tables.funs) (map declaration (drop l.d-index l.decls))
      ≡ spec.fun_table [] (map declaration l.decls);
}
