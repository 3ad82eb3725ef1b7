-- Loops of Store::claim_between: the seat's log alone has grown, and each segment so far was found with a count.
use Rattle.std.proofs.Common.{◌≡◌, ℕ, ◌+◌, ◌-◌, ◌%◌, ◌<◌, ◌≤◌, List, ◌++◌}
use Rattle.segment_store.specs.Places.{view}
use Rattle.segment_store.specs.Entry.{Look}
use Rattle.segment_store.specs.Store.{IsSegment}
use Rattle.segment_store.specs.Same.{Becomes}
use Rattle.segment_store.specs.Base.{logged, Found}
use Rattle.segment_store.proofs.store.Store.claim_between.Given as goal

abbrev pub invariant-loop-segment : goal.invariant-loop-segment
invariant-loop-segment l = Becomes l.initial.seat l.seat
    (logged (view l.initial.seat) (view l.seat).log) × (l.segment % l.fn.self.stride ≡ 0)
    × (0 < l.segment)
    × ((seen : List Look) × ((view l.seat).log ≡ seen ++ (view l.initial.seat).log)
    × ((c : ℕ) → IsSegment l.fn.self.words l.fn.self.stride c
    → l.fn.from ≤ c → c < l.segment → Found c seen))

abbrev pub decreases-loop-segment : goal.decreases-loop-segment
decreases-loop-segment l = l.fn.self.words + 1 - l.segment
