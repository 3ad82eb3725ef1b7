-- Loops of expression: the uses so far, with those of the arguments or links left, are the old ones and all theirs.
use Rattle.std.proofs.Common.{◌≡◌, ◌++◌, drop}
use Rattle.rev_syntax.specs.View.{expressions, links}
use Rattle.typed_programs.specs.FunRules as rule
use Rattle.merge_decl.specs.Uses.{uses_of}
use Rattle.merge_decl.proofs.uses.+expression.Given as goal

abbrev pub invariant-add_expressions-loop-arg : goal.invariant-add_expressions-loop-arg
invariant-add_expressions-loop-arg l =
    uses_of l.uses.items ++ rule.expressions_uses l.within (expressions (drop l.arg-index l.args))
    ≡ uses_of l.initial.uses.items ++ rule.expressions_uses l.within (expressions l.args)

abbrev pub invariant-add_links-loop-link : goal.invariant-add_links-loop-link
invariant-add_links-loop-link l =
    uses_of l.uses.items ++ rule.links_uses l.within (links (drop l.link-index l.rest))
    ≡ uses_of l.initial.uses.items ++ rule.links_uses l.within (links l.rest)
