-- Loops of merge_list: the merges so far, with those of the declarations left, are the merges of all declarations.
use Rattle.std.proofs.Common.{◌≡◌, ◌++◌, map, drop}
use Rattle.rev_syntax.specs.View.{declaration}
use Rattle.typed_programs.specs.FunRules as rule
use Rattle.typed_programs.specs.Expands.{decls_of_merges}
use Rattle.merge_decl.proofs.expand.merge_list.Given as goal

abbrev pub invariant-loop-decl : goal.invariant-loop-decl
invariant-loop-decl l =
    decls_of_merges l.merges.items ++ rule.merge_decls l.decl (map declaration (drop l.decl l.decls))
    ≡ rule.merge_decls 0 (map declaration l.decls)
