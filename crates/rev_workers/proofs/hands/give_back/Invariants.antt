-- Loops of give_back: the hands left belong to the store, and gathered and still kept are together as at first.
use Rattle.std.proofs.Common.{◌≡◌, ◌+◌, length, All}
use Rattle.segment_store.specs.Names.{IsSeatOf, gathered}
use Rattle.rev_workers.specs.Hands.{IsHandAt, kept_by}
use Rattle.rev_workers.proofs.hands.give_back.Given as goal

abbrev pub invariant-loop : goal.invariant-loop
invariant-loop g l =
    All (IsHandAt l.fn.store) l.rest.items × (length l.rest.items + l.counter ≡ l.count)
    × IsSeatOf l.fn.store l.all.seat
    × (gathered l.all + kept_by l.rest.items ≡ gathered l.initial.all + kept_by l.fn.hands.items)
