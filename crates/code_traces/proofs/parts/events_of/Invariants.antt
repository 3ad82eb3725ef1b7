-- Loops of events_of: the events so far, with those of the forks and joins left, are the events of all.
use Rattle.std.proofs.Common.{◌≡◌, ◌++◌, List, drop, map}
use Rattle.rev_num.specs.Path.{Path}
use Rattle.code_world.specs.Endings.{Names}
use Rattle.leg_run.specs.Standing.{listed_as}
use Rattle.code_traces.specs.Parts.{event_of, path_in}
use Rattle.code_traces.proofs.parts.events_of.Given as goal

-- the later ones are still to come
abbrev pub invariant-loop-meeting : goal.invariant-loop-meeting
invariant-loop-meeting l =
    (paths : List Path) → Names l.births paths
    → l.events.items ++ map (event_of (path_in paths)) (map listed_as (drop l.meeting-index l.meetings))
    ≡ map (event_of (path_in paths)) (map listed_as l.meetings)
