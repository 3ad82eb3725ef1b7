-- Loops of births_of: the births so far are those of the forkers so far.
use Rattle.std.proofs.Common.{take}
use Rattle.thread_runs.specs.Births.{AreBirths}
use Rattle.thread_runs.proofs.births.births_of.Given as goal

-- the births of the first so many
abbrev pub invariant-loop-number : goal.invariant-loop-number
invariant-loop-number l = AreBirths (take l.number l.forkers) l.births.items
