-- Loops of copy_events: the copies so far are the first of the events.
use Rattle.std.proofs.Common.{◌≡◌, take}
use Rattle.trace_diagram.proofs.copies.copy_events.Given as goal

abbrev pub invariant-loop-event : goal.invariant-loop-event
invariant-loop-event l = l.copy.items ≡ take l.event-index l.events
