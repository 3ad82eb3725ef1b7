-- Loops of Records::reach: there are places for as many numbers as counted, and all else is as before.
use Rattle.std.proofs.Common.{◌≡◌, length}
use Rattle.hub_core.specs.Recorded.{IsLonger}
use Rattle.hub_core.proofs.records.Records.reach.Given as goal

abbrev pub invariant-loop : goal.invariant-loop
invariant-loop g l =
    IsLonger l.initial.self.queue l.self.queue l.initial.self.list.items l.self.list.items
    × (length l.self.list.items ≡ l.counter)
