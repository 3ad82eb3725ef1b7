-- Loops of numbered: all numbers are below the count, and no two names share one.
use Rattle.revision_state.specs.LocalPlaces.{AreApart, AreBelow}
use Rattle.revision_state.proofs.bodies.numbered.Given as goal

abbrev pub invariant-loop-name : goal.invariant-loop-name
invariant-loop-name l = AreBelow l.numbers × AreApart l.numbers
