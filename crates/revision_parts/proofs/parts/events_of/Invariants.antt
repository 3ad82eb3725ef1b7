-- Loops of events_of: the events so far are those of the first of the list.
use Rattle.std.proofs.Common.{◌≡◌, take, map}
use Rattle.revision_state.specs.Phases.{noted}
use Rattle.audit_rules.specs.Parts.{event_of}
use Rattle.revision_parts.proofs.parts.events_of.Given as goal

abbrev pub invariant-loop-noted : goal.invariant-loop-noted
invariant-loop-noted l = l.events.items ≡ map event_of (map noted (take l.noted-index l.list))
