-- Loops of wrong_below: each read leaves hold, delta and what was gathered a part of the store.
use Rattle.thread_cases.specs.Parts.{IsPart}
use Rattle.thread_cases.proofs.one_store.wrong_below.Given as goal

abbrev pub invariant-loop-location : goal.invariant-loop-location
invariant-loop-location l = IsPart l.fn.store l.part.hold l.part.delta l.part.all
