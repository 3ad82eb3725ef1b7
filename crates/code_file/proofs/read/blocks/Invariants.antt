-- Loops of blocks: reading the blocks left behind those read so far is reading all of them from the first.
use Rattle.std.proofs.Common.{◌≡◌, ◌-◌, []}
use Rattle.code_file.specs.Fields.{more}
use Rattle.code_file.specs.Reads.{block}
use Rattle.code_file.proofs.read.blocks.Given as goal

abbrev pub invariant-loop-turn : goal.invariant-loop-turn
invariant-loop-turn l = record {
  rest : more l.count (λ _. block l.tries) [] l.fn.cursor.whole l.initial.cursor.rest.now
      ≡ more (l.count - l._turn) (λ _. block l.tries) l.parts.items l.cursor.whole l.cursor.rest.now;
  whole : l.cursor.whole ≡ l.fn.cursor.whole;
}
