-- Invariants of write_zeros: the first of these words are 0, and all others as at the start.
use Rattle.std.proofs.Common.{◌≡◌}
use Rattle.std.specs.Prelude.{replicate}
use Rattle.sparse_table.specs.Words.{laid}
use Rattle.sparse_table.proofs.zeros.write_zeros.Given as goal

abbrev pub invariant-loop-k : goal.invariant-loop-k
invariant-loop-k l = (l.span.ptr ≡ l.initial.span.ptr) × (l.span.items ≡ laid l.initial.span.items l.fn.from
    (replicate l.k 0))
