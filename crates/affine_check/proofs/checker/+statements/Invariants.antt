-- Loops of statements: what was found, with the walk of what is left, is what the walk of all of them gives.
use Rattle.std.proofs.Common.{◌≡◌, ◌≤◌, ◌&&◌, ◌||◌, drop, None, take, length}
use Rattle.rev_syntax.specs.View.{stmts, arms}
use Rattle.rev_kinds.specs.Walk.{names_of}
use Rattle.affine_check.specs.Live.{passes, arms_pass}
use Rattle.affine_check.specs.Walk as rule
use Rattle.affine_check.proofs.checker.+statements.Given as goal

abbrev pub invariant-broken_block-loop-i : goal.invariant-broken_block-loop-i
invariant-broken_block-loop-i l = record {
  deep : l.depth ≤ length l.scope.locals;
  outer : take l.depth l.scope.locals ≡ l.initial.scope.locals;
  reached :
      (l.scope.reached && passes (stmts (drop l.i l.s-items))) ≡ (l.initial.scope.reached && passes (stmts l.s-items));
  found : rule.broken_in (names_of l.checker) l.scope.locals l.scope.reached l.found (stmts (drop l.i l.s-items))
      ≡ rule.broken_in (names_of l.checker) l.initial.scope.locals l.initial.scope.reached None (stmts l.s-items);
}

abbrev pub invariant-broken_arms-loop-a : goal.invariant-broken_arms-loop-a
invariant-broken_arms-loop-a l = record {
  same : l.scope.locals ≡ l.initial.scope.locals;
  passed : (l.passes || (l.reached && arms_pass (arms (drop l.a-index l.all)))) ≡ (l.reached && arms_pass (arms l.all));
  found : rule.broken_arms (names_of l.checker) l.scope.locals l.reached l.found (arms (drop l.a-index l.all))
      ≡ rule.broken_arms (names_of l.checker) l.initial.scope.locals l.reached None (arms l.all);
}
