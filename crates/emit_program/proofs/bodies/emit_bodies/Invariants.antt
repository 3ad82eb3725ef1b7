-- Loops of emit_bodies: the blocks, texts and layouts so far, with those left and of main, are those of all.
use Rattle.std.proofs.Common.{◌≡◌, ◌++◌, drop, map, length}
use Rattle.rev_syntax.specs.View.{block, declaration}
use Rattle.rev_kinds.specs.Walk.{names_of}
use Rattle.code_generation.specs.Generated.{body_blocks, texts_of, layouts_of}
use Rattle.emit_code.specs.Naming.{numbers_of}
use Rattle.emit_program.specs.Fitting.{DeclarationsFit}
use Rattle.emit_program.proofs.bodies.emit_bodies.Given as goal

abbrev pub invariant-loop-d : goal.invariant-loop-d
invariant-loop-d l = record {
  blocks : l.blocks.items
      ++ body_blocks (numbers_of l.numbers) (names_of l.checker) (map declaration (drop l.d-index l.d-items))
      (block l.program.main) (length l.listed.layouts.items)
      ≡ l.initial.blocks.items
      ++ body_blocks (numbers_of l.numbers) (names_of l.checker) (map declaration l.d-items) (block l.program.main) 0;
  texts : l.listed.texts.items ++ texts_of (map declaration (drop l.d-index l.d-items)) (block l.program.main)
      ≡ texts_of (map declaration l.d-items) (block l.program.main);
  layouts : l.listed.layouts.items
      ++ layouts_of (names_of l.checker) (length l.listed.texts.items) (map declaration (drop l.d-index l.d-items))
      (block l.program.main)
      ≡ layouts_of (names_of l.checker) 0 (map declaration l.d-items) (block l.program.main);
  fits : DeclarationsFit (numbers_of l.numbers) (map declaration (drop l.d-index l.d-items));
}
