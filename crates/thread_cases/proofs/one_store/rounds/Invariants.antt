-- Loops of rounds: each round leaves hold, delta and what was gathered a part of the store.
use Rattle.thread_cases.specs.Parts.{IsPart}
use Rattle.thread_cases.proofs.one_store.rounds.Given as goal

abbrev pub invariant-loop-word : goal.invariant-loop-word
invariant-loop-word l = IsPart l.fn.store l.part.hold l.part.delta l.part.all
