-- Loops of fun_table: what the table finds, or else the first fun among the declarations left, is the first of all.
use Rattle.std.proofs.Common.{◌≡◌, ◌≤◌, map, drop}
use Rattle.rev_syntax.specs.View.{declaration}
use Rattle.typed_programs.specs.FunRules as rule
use Rattle.name_tables.specs.Names.{Name}
use Rattle.name_tables.specs.Table.{find}
use Rattle.name_tables.proofs.Tables.{or_else}
use Rattle.merge_decl.proofs.expand.fun_table.Given as goal

abbrev pub invariant-loop-decl : goal.invariant-loop-decl
invariant-loop-decl l = record {
  number_small : l.number ≤ l.decl;
  found : (name : Name)
      → or_else (find name l.table) (rule.first_fun l.decl l.number (map declaration (drop l.decl l.decls)) name)
      ≡ rule.first_fun 0 0 (map declaration l.decls) name;
}
