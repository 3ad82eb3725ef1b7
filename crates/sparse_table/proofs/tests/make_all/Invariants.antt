-- Invariants of make_all: the seat is of its half.
use Rattle.sparse_table.specs.Halves.{IsHalf}
use Rattle.sparse_table.proofs.tests.make_all.Given as goal

abbrev pub invariant-loop-k : goal.invariant-loop-k
invariant-loop-k l = IsHalf l.fn.table l.half.seat l.half.from
