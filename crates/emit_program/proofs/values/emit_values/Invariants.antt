-- Loops of emit_values: the blocks so far, with those of the declarations left, are all, and those left fit.
use Rattle.std.proofs.Common.{◌≡◌, ◌++◌, drop, map}
use Rattle.rev_syntax.specs.View.{declaration}
use Rattle.code_generation.specs.Generated.{value_blocks}
use Rattle.emit_code.specs.Naming.{numbers_of}
use Rattle.emit_program.specs.Fitting.{DeclarationsFit}
use Rattle.emit_program.proofs.values.emit_values.Given as goal

abbrev pub invariant-loop-d : goal.invariant-loop-d
invariant-loop-d l = record {
  blocks : l.blocks.items ++ value_blocks (numbers_of l.numbers) (map declaration (drop l.d-index l.decls))
      ≡ value_blocks (numbers_of l.numbers) (map declaration l.decls);
  fits : DeclarationsFit (numbers_of l.numbers) (map declaration (drop l.d-index l.decls));
}
