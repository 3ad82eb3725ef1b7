-- Loops of form: the uses so far, with those of the arms or statements left, are the old ones and all of theirs.
use Rattle.std.proofs.Common.{◌≡◌, ◌++◌, drop}
use Rattle.rev_syntax.specs.View.{arms, stmts}
use Rattle.typed_programs.specs.FunRules as rule
use Rattle.merge_decl.specs.Uses.{uses_of}
use Rattle.merge_decl.proofs.uses.+form.Given as goal

abbrev pub invariant-add_arms-loop-arm : goal.invariant-add_arms-loop-arm
invariant-add_arms-loop-arm l =
    uses_of l.uses.items ++ rule.arms_uses l.within (arms (drop l.arm-index l.all))
    ≡ uses_of l.initial.uses.items ++ rule.arms_uses l.within (arms l.all)

abbrev pub invariant-add_block-loop-stmt : goal.invariant-add_block-loop-stmt
invariant-add_block-loop-stmt l =
    uses_of l.uses.items ++ rule.statements_uses l.within (stmts (drop l.stmt-index l.stmt-items))
    ≡ uses_of l.initial.uses.items ++ rule.statements_uses l.within (stmts l.stmt-items)
