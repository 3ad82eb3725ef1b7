-- Loops of fun_list: the funs so far, with those of the declarations left, are the funs of all declarations.
use Rattle.std.proofs.Common.{◌≡◌, ◌++◌, map, drop}
use Rattle.rev_syntax.specs.View.{declaration}
use Rattle.typed_programs.specs.FunRules as rule
use Rattle.typed_programs.specs.Expands.{decls_of_funs}
use Rattle.merge_decl.proofs.expand.fun_list.Given as goal

abbrev pub invariant-loop-decl : goal.invariant-loop-decl
invariant-loop-decl l =
    decls_of_funs l.funs.items ++ rule.fun_decls l.decl (map declaration (drop l.decl l.decls))
    ≡ rule.fun_decls 0 (map declaration l.decls)
