-- Loops of land: landing the jumps left is landing all of them, at the end where the code stood at first.
use Rattle.std.proofs.Common.{◌≡◌, drop}
use Rattle.emit_code.specs.Bodies.{landed}
use Rattle.emit_code.proofs.choices.land.Given as goal

abbrev pub invariant-loop-at : goal.invariant-loop-at
invariant-loop-at l = landed (drop l.at-index l.ends) l.end l.code.items ≡ landed l.ends l.end l.initial.code.items
