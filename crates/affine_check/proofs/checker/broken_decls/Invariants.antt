-- Loops of broken_decls: the first breach so far, with the walk of the declarations left, is that of the walk of all.
use Rattle.std.proofs.Common.{◌≡◌, drop, map, None}
use Rattle.rev_syntax.specs.View.{declaration}
use Rattle.rev_kinds.specs.Walk.{names_of}
use Rattle.affine_check.specs.Walk as rule
use Rattle.affine_check.proofs.checker.broken_decls.Given as goal

abbrev pub invariant-loop-d : goal.invariant-loop-d
invariant-loop-d l =
    rule.broken_declarations (names_of l.checker) l.found (map declaration (drop l.d-index l.decls))
    ≡ rule.broken_declarations (names_of l.checker) None (map declaration l.decls)
