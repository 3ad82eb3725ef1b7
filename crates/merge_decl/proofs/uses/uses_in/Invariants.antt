-- Loops of uses_in: the uses so far, with those of the declarations left, are the uses of all declarations.
use Rattle.std.proofs.Common.{◌≡◌, ◌++◌, drop, map}
use Rattle.rev_syntax.specs.View.{declaration}
use Rattle.typed_programs.specs.FunRules as rule
use Rattle.merge_decl.specs.Uses.{uses_of}
use Rattle.merge_decl.proofs.uses.uses_in.Given as goal

abbrev pub invariant-loop-number : goal.invariant-loop-number
invariant-loop-number l =
    uses_of l.uses.items
    ++ rule.declarations_uses l.all l.number (map declaration (drop l.number l.program.decls.items))
    ≡ rule.declarations_uses l.all 0 (map declaration l.program.decls.items)
