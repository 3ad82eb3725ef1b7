-- Loops of statements: what is written, with what the statements or arms left come to, is what all come to.
use Rattle.std.proofs.Common.{◌≡◌, ◌≤◌, ◌+◌, ◌++◌, drop, take, length}
use Rattle.rev_syntax.specs.View.{stmts, arms}
use Rattle.typed_programs.specs.Limits.{statements_lets, arms_lets}
use Rattle.code_generation.specs.Sizes.{statements_size, statements_prints, arms_size, arms_prints}
use Rattle.code_generation.specs.Statements.{statements_code, arms_code}
use Rattle.emit_code.specs.Naming.{numbers_of}
use Rattle.emit_code.specs.Bodies.{spot_of, leaps_at}
use Rattle.emit_code.proofs.blocks.+statements.Given as goal

abbrev pub invariant-emit_block-loop-s : goal.invariant-emit_block-loop-s
invariant-emit_block-loop-s l = record {
  deep : l.depth ≤ length l.body.scope;
  outer : take l.depth l.body.scope ≡ l.initial.body.scope;
  code : l.body.code.items
      ++ statements_code (numbers_of l.numbers) l.body.scope (stmts (drop l.s-index l.s-items)) (spot_of l.body)
      ≡ l.initial.body.code.items
      ++ statements_code (numbers_of l.numbers) l.initial.body.scope (stmts l.s-items) (spot_of l.initial.body);
  long : length l.body.code.items + statements_size (numbers_of l.numbers) (stmts (drop l.s-index l.s-items))
      ≡ length l.initial.body.code.items + statements_size (numbers_of l.numbers) (stmts l.s-items);
  local : l.body.local + statements_lets (stmts (drop l.s-index l.s-items))
      ≡ l.initial.body.local + statements_lets (stmts l.s-items);
  layout : l.body.layout + statements_prints (stmts (drop l.s-index l.s-items))
      ≡ l.initial.body.layout + statements_prints (stmts l.s-items);
}

abbrev pub invariant-emit_arms-loop-a : goal.invariant-emit_arms-loop-a
invariant-emit_arms-loop-a l = record {
  left : l.left + l.a-index ≡ length l.all;
  scope : l.body.scope ≡ l.initial.body.scope;
  code : l.body.code.items
      ++ arms_code (numbers_of l.numbers) l.body.scope l.has_last (arms (drop l.a-index l.all)) 0 (spot_of l.body)
      ≡ l.initial.body.code.items
      ++ arms_code (numbers_of l.numbers) l.initial.body.scope l.has_last (arms l.all) 0 (spot_of l.initial.body);
  long : length l.body.code.items + arms_size (numbers_of l.numbers) l.has_last (arms (drop l.a-index l.all))
      ≡ length l.initial.body.code.items + arms_size (numbers_of l.numbers) l.has_last (arms l.all);
  ends : l.ends.items
      ++ leaps_at (numbers_of l.numbers) l.has_last (arms (drop l.a-index l.all)) (length l.body.code.items)
      ≡ leaps_at (numbers_of l.numbers) l.has_last (arms l.all) (length l.initial.body.code.items);
  local : l.body.local + arms_lets (arms (drop l.a-index l.all)) ≡ l.initial.body.local + arms_lets (arms l.all);
  layout : l.body.layout + arms_prints (arms (drop l.a-index l.all)) ≡ l.initial.body.layout + arms_prints (arms l.all);
}
