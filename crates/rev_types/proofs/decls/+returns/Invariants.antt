-- Loops of returns: the answer so far, taken through the statements or arms left, is the answer for all of them.
use Rattle.std.proofs.Common.{◌≡◌, drop, true, false}
use Rattle.rev_syntax.specs.View.{stmts, arms}
use Rattle.typed_programs.specs.Statements as statements
use Rattle.rev_types.proofs.decls.+returns.Given as goal

abbrev pub invariant-returns-loop-s : goal.invariant-returns-loop-s
invariant-returns-loop-s l =
    statements.statements_return l.last (stmts (drop l.s-index l.s-items))
    ≡ statements.statements_return false (stmts l.s-items)

abbrev pub invariant-arms_return-loop-arm : goal.invariant-arms_return-loop-arm
invariant-arms_return-loop-arm l =
    statements.arms_return l.every (arms (drop l.arm-index l.all)) ≡ statements.arms_return true (arms l.all)
