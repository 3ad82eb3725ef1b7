-- Loops of locals: reading the kinds left behind those read so far is reading all of them from the first.
use Rattle.std.proofs.Common.{◌≡◌, ◌-◌, []}
use Rattle.code_file.specs.Fields.{more}
use Rattle.code_file.specs.Fields.{tested, number_8}
use Rattle.code_file.specs.Parts.{kind_of}
use Rattle.code_file.proofs.read.locals.Given as goal

abbrev pub invariant-loop-turn : goal.invariant-loop-turn
invariant-loop-turn l = record {
  rest : more l.count (λ _. tested kind_of number_8) [] l.fn.cursor.whole l.initial.cursor.rest.now
      ≡ more (l.count - l._turn) (λ _. tested kind_of number_8) l.parts.items l.cursor.whole l.cursor.rest.now;
  whole : l.cursor.whole ≡ l.fn.cursor.whole;
}
