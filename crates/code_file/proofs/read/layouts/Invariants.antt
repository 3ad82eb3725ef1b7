-- Loops of layouts: reading the layouts left behind those read so far is reading all of them from the first.
use Rattle.std.proofs.Common.{◌≡◌, ◌-◌, []}
use Rattle.code_file.specs.Fields.{more}
use Rattle.code_file.specs.Reads.{layout}
use Rattle.code_file.proofs.read.layouts.Given as goal

abbrev pub invariant-loop-turn : goal.invariant-loop-turn
invariant-loop-turn l = record {
  rest : more l.count (λ _. layout) [] l.fn.cursor.whole l.initial.cursor.rest.now
      ≡ more (l.count - l._turn) (λ _. layout) l.parts.items l.cursor.whole l.cursor.rest.now;
  whole : l.cursor.whole ≡ l.fn.cursor.whole;
}
