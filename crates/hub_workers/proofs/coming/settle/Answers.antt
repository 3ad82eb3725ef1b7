-- Answers of settle: the joiner and the end met in a world of the run, and it has the state behind its join.
use Rattle.std.proofs.Common.{rules, ◌≡◌, true, inl}
use Rattle.hub_workers.specs.Legs.{IsEndBy}
use Rattle.hub_workers.proofs.Behinds.{behind_as, behind_of}
use Rattle.hub_workers.proofs.Events.{hand_on, have_met}
use Rattle.hub_workers.proofs.coming.settle.Goals as goal

pub settle-requires-clause-met : goal.settle-requires-clause-met
settle-requires-clause-met g c =
    let s = c.requires.state in
    let met = have_met g.L.Revision.machine g.L.Revision.ends g.L.Legs.begins g.L.Legs.hand_group
    c.args.seat.now.place.me.0.seat
    c.args.number s.0 s.1 c.args.hand.now s.4 c.requires.hand in
    (s.0, s.1, s.2, s.3, met)

pub returns-in-Ok-Run-clause-next : goal.returns-in-Ok-Run-clause-next
returns-in-Ok-Run-clause-next g c =
    let s = c.requires.state in
    let met = have_met g.L.Revision.machine g.L.Revision.ends g.L.Legs.begins g.L.Legs.hand_group
    c.args.seat.now.place.me.0.seat
    c.args.number s.0 s.1 c.args.hand.now s.4 c.requires.hand in
    let came = c.in-Ok-Run.ensures.state s.0 s.1 s.2 s.3 met in
    let is : g.L.Revision.machine.runs c.in-Ok-Run.runner ≡ g.L.Revision.machine.joined s.0 s.1 = search rules in
    let group : g.L.Revision.machine.runner_group c.in-Ok-Run.runner ≡ c.args.seat.now.place.me.0.seat.group =
    search rules in (
      behind_as g.L.Revision.machine g.L.Revision.ends c.args.seat.now.place.me.0.seat c.args.number
          (g.L.Revision.machine.joined s.0 s.1) (g.L.Revision.machine.runs c.in-Ok-Run.runner) c.args.behind s.5 is,
      group,
    )

pub enter-requires-clause-comes : goal.enter-requires-clause-comes
enter-requires-clause-comes g c =
    let s = c.requires.state in
    let met = have_met g.L.Revision.machine g.L.Revision.ends g.L.Legs.begins g.L.Legs.hand_group
    c.args.seat.now.place.me.0.seat
    c.args.number s.0 s.1 c.args.hand.now s.4 c.requires.hand in
    let came = c.in-Ok-Trap.ensures.state s.0 s.1 s.2 s.3 met in
    let by : IsEndBy g.L.Revision.machine g.L.Revision.ends g.L.Revision.by_join true c.in-Ok-Trap.end
    (g.L.Revision.machine.joined s.0 s.1) = search rules in
    (g.L.Revision.machine.joined s.0 s.1, s.5, inl by)

pub give_up_behind-requires : goal.give_up_behind-requires
give_up_behind-requires g c =
    let s = c.requires.state in
    let of = hand_on g.L.Legs.begins g.L.Legs.hand_group c.args.seat.now.place.me.0.seat c.args.hand.now
    c.settle.new.hand
    c.requires.hand c.settle.ensures.hand in
    behind_of g.L.Revision.machine g.L.Revision.ends g.L.Legs.begins g.L.Legs.hand_group c.args.seat.now.place.me.0.seat
    c.args.number (g.L.Revision.machine.joined s.0 s.1) c.args.behind c.settle.new.hand s.5 of
