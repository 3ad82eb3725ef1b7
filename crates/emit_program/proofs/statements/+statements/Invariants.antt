-- Loops of statements: the kinds, texts and layouts so far, with those of what is left, are those of all.
use Rattle.std.proofs.Common.{◌≡◌, ◌≤◌, ◌<◌, ◌^◌, ◌+◌, ◌++◌, drop, take, length}
use Rattle.rev_syntax.specs.View.{stmts, arms}
use Rattle.rev_kinds.specs.Walk.{names_of}
use Rattle.code_generation.specs.Prints.{statements_kinds, statements_texts, statements_layouts, arms_kinds, arms_texts, arms_layouts}
use Rattle.emit_program.proofs.statements.+statements.Given as goal

abbrev pub invariant-list_block-loop-s : goal.invariant-list_block-loop-s
invariant-list_block-loop-s l = record {
  deep : l.depth ≤ length l.listed.locals;
  outer : take l.depth l.listed.locals ≡ l.initial.listed.locals;
  kinds :
      l.listed.kinds.items ++ statements_kinds (names_of l.checker) l.listed.locals (stmts (drop l.s-index l.s-items))
      ≡ l.initial.listed.kinds.items ++ statements_kinds (names_of l.checker) l.initial.listed.locals (stmts l.s-items);
  texts : l.listed.texts.items ++ statements_texts (stmts (drop l.s-index l.s-items))
      ≡ l.initial.listed.texts.items ++ statements_texts (stmts l.s-items);
  layouts : l.listed.layouts.items
      ++ statements_layouts (names_of l.checker) l.listed.locals (length l.listed.texts.items)
      (stmts (drop l.s-index l.s-items))
      ≡ l.initial.listed.layouts.items
      ++ statements_layouts (names_of l.checker) l.initial.listed.locals (length l.initial.listed.texts.items)
      (stmts l.s-items);
  room : length l.listed.texts.items + length (statements_texts (stmts (drop l.s-index l.s-items))) < 2 ^ 32;
}

abbrev pub invariant-list_arms-loop-a : goal.invariant-list_arms-loop-a
invariant-list_arms-loop-a l = record {
  same : l.listed.locals ≡ l.initial.listed.locals;
  kinds : l.listed.kinds.items ++ arms_kinds (names_of l.checker) l.listed.locals (arms (drop l.a-index l.all))
      ≡ l.initial.listed.kinds.items ++ arms_kinds (names_of l.checker) l.initial.listed.locals (arms l.all);
  texts : l.listed.texts.items ++ arms_texts (arms (drop l.a-index l.all))
      ≡ l.initial.listed.texts.items ++ arms_texts (arms l.all);
  layouts : l.listed.layouts.items
      ++ arms_layouts (names_of l.checker) l.listed.locals (length l.listed.texts.items) (arms (drop l.a-index l.all))
      ≡ l.initial.listed.layouts.items
      ++ arms_layouts (names_of l.checker) l.initial.listed.locals (length l.initial.listed.texts.items) (arms l.all);
  room : length l.listed.texts.items + length (arms_texts (arms (drop l.a-index l.all))) < 2 ^ 32;
}
