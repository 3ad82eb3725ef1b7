-- Loops of declarations: the declarations so far, with those of the tokens left, are all, and no number is negative.
use Rattle.std.proofs.Common.{◌≡◌, ◌-◌, [], map}
use Rattle.rev_expressions.specs.Declarations as spec
use Rattle.rev_expressions.specs.Lists.{more_of}
use Rattle.rev_parse.specs.Pieces.{AreNatural}
use Rattle.rev_syntax.specs.View as view
use Rattle.rev_parse.proofs.declaration.declarations.Given as goal

abbrev pub invariant-loop-turn : goal.invariant-loop-turn
invariant-loop-turn l = record {
  natural : AreNatural l.cursor.rest.now;
  same :
      more_of l.source.bytes.now l.levels (spec.declaration l.source.bytes.now) l._turn-end [] l.initial.cursor.rest.now
      ≡ more_of l.source.bytes.now l.levels (spec.declaration l.source.bytes.now) (l._turn-end - l._turn)
      (map view.declaration l.found.items) l.cursor.rest.now;
}
