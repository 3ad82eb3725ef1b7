-- Loops of declarations: the fault, the rows and what was passed so far, taken through those left, are those of all.
use Rattle.std.proofs.Common.{◌≡◌, ◌≤◌, ◌++◌, drop, map, None}
use Rattle.rev_syntax.specs.View.{declaration}
use Rattle.rev_kinds.specs.Walk.{names_of}
use Rattle.rev_types.specs.Passing.{passed_of}
use Rattle.typed_programs.specs.Program as program
use Rattle.rev_types.specs.Walk as rule
use Rattle.rev_types.proofs.checker.declarations.Given as goal

abbrev pub invariant-loop-d : goal.invariant-loop-d
invariant-loop-d l = record {
  number : l.passed.number ≡ l.d-index;
  counted : l.passed.merge_count ≤ l.passed.number;
  found : rule.broken_in_declarations (names_of l.outer) (names_of l.inner) (passed_of l.passed) l.found
      (map declaration (drop l.d-index l.decls))
      ≡ rule.broken_in_declarations (names_of l.outer) (names_of l.inner) program.nothing_passed None
      (map declaration l.decls);
  shared : l.shared.items ++ program.infos (passed_of l.passed) (map declaration (drop l.d-index l.decls))
      ≡ program.infos program.nothing_passed (map declaration l.decls);
  procs : l.procs.items ++ program.proc_decls l.passed.number (map declaration (drop l.d-index l.decls))
      ≡ program.proc_decls 0 (map declaration l.decls);
  all : program.passed_all (passed_of l.passed) (map declaration (drop l.d-index l.decls))
      ≡ program.passed_all program.nothing_passed (map declaration l.decls);
}
