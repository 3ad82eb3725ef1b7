-- Answers of events_of: each fork or join appends its event, and at the end none is left.
use Rattle.std.proofs.Common.{◌∙◌, ◌++◌, [], ◌∷◌, ap, arith, map, refl}
use Rattle.leg_run.specs.Standing.{listed_as}
use Rattle.code_traces.specs.Parts.{event_of, path_in}
use Rattle.code_traces.proofs.Loops.{read_done, all_done}
use Rattle.code_traces.proofs.parts.events_of.Goals as goal

pub loop-meeting-init : goal.loop-meeting-init
loop-meeting-init c = λ paths names.
    ap (λ l. l ++ map (event_of (path_in paths)) (map listed_as c.args.meetings.now)) (c.in_ok-events.ensures).items

pub loop-meeting-preserved : goal.loop-meeting-preserved
loop-meeting-preserved c = λ paths names.
    read_done (λ ms. map (event_of (path_in paths)) (map listed_as ms))
    (λ m. event_of (path_in paths) (listed_as m) ∷ []) (λ x xs. refl) c.args.meetings.now c.loop-meeting.meeting-index _
    c.loop-meeting.events.items c.push.new.self.items
    (map (event_of (path_in paths)) (map listed_as c.args.meetings.now)) c.loop-meeting-test.true
    ((c.in_ok-push.ensures).items ∙ ap (λ x. c.loop-meeting.events.items ++ x ∷ []) (c.in_ok-event.ensures paths names))
    (c.loop-meeting.invariant paths names)

pub returns : goal.returns
returns c = λ paths names.
    all_done (λ ms. map (event_of (path_in paths)) (map listed_as ms))
    (λ m. event_of (path_in paths) (listed_as m) ∷ []) (λ x xs. refl) c.args.meetings.now c.loop-meeting.meeting-index
    refl c.loop-meeting.events.items
    (map (event_of (path_in paths)) (map listed_as c.args.meetings.now))
    (let few = c.loop-meeting-test.false in omega (arith, few)) (c.loop-meeting.invariant paths names)
