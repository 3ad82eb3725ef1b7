-- Loops of live_in: the segments so far that have a count are counted.
use Rattle.std.proofs.Common.{◌≡◌, ◌≤◌, ◌-◌}
use Rattle.sparse_table.specs.Last.{words_of}
use Rattle.segment_store.specs.Live.{live_segments}
use Rattle.segment_store.proofs.store.closing.live_in.Given as goal

abbrev pub invariant-loop-k : goal.invariant-loop-k
invariant-loop-k l = (l.live ≡ live_segments l.stride (words_of l.fn.table) l.k)
    × (l.k ≤ l.segments) × (l.table ≡ l.fn.table)

abbrev pub decreases-loop-k : goal.decreases-loop-k
decreases-loop-k l = l.segments - l.k
