-- Loops of append_events: the text is that at first with the lines of the events so far.
use Rattle.std.proofs.Common.{◌≡◌, ◌++◌, map, take}
use Rattle.std.specs.List.{flat_map}
use Rattle.trace_diagram.specs.Lines.{event_text}
use Rattle.trace_diagram.specs.Traces.{ended}
use Rattle.trace_diagram.proofs.printer.append_events.Given as goal

abbrev pub invariant-loop-event : goal.invariant-loop-event
invariant-loop-event l =
    l.text.items ≡ l.initial.text.items ++ flat_map ended (map event_text (take l.event-index l.events))
