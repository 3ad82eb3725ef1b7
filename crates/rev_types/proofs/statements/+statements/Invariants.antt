-- Loops of statements: the fault and the room so far, taken through the rest, are those of all; outer locals stay.
use Rattle.std.proofs.Common.{◌≡◌, ◌≤◌, drop, None, take, length}
use Rattle.rev_syntax.specs.View.{stmts, arms}
use Rattle.rev_kinds.specs.Walk.{names_of}
use Rattle.typed_programs.specs.Statements as statements
use Rattle.rev_types.specs.Walk as rule
use Rattle.rev_types.proofs.statements.+statements.Given as goal

abbrev pub invariant-block-loop-s : goal.invariant-block-loop-s
invariant-block-loop-s l = record {
  deep : l.depth ≤ length l.body.locals;
  outer : take l.depth l.body.locals ≡ l.initial.body.locals;
  found : rule.broken_in_statements (names_of l.checker) l.result_kind l.body.locals l.body.left l.found
      (stmts (drop l.s-index l.s-items))
      ≡ rule.broken_in_statements (names_of l.checker) l.result_kind l.initial.body.locals l.initial.body.left None
      (stmts l.s-items);
  left : statements.left_statements l.body.left (stmts (drop l.s-index l.s-items))
      ≡ statements.left_statements l.initial.body.left (stmts l.s-items);
}

abbrev pub invariant-arms-loop-a : goal.invariant-arms-loop-a
invariant-arms-loop-a l = record {
  same : l.body.locals ≡ l.initial.body.locals;
  found : rule.broken_in_arms (names_of l.checker) l.result_kind l.body.locals l.body.left l.found
      (arms (drop l.a-index l.all))
      ≡ rule.broken_in_arms (names_of l.checker) l.result_kind l.initial.body.locals l.initial.body.left None
      (arms l.all);
  left : statements.left_arms l.body.left (arms (drop l.a-index l.all))
      ≡ statements.left_arms l.initial.body.left (arms l.all);
}
