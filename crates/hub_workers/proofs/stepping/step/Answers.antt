-- Answers of step: the leg begins in a state that a schedule leads to, also where the entries before it are owed.
use Rattle.std.proofs.Common.{sym, subst}
use Rattle.hub_workers.specs.Legs.{IsEventOf}
use Rattle.hub_workers.proofs.Behinds.{behind_of, reached_behind}
use Rattle.hub_workers.proofs.Events.{hand_on}
use Rattle.hub_workers.proofs.stepping.step.Goals as goal

pub run_leg-requires-clause-state : goal.run_leg-requires-clause-state
run_leg-requires-clause-state g c =
    reached_behind g.L.Revision.machine g.L.Revision.ends g.L.Legs.begins g.L.Legs.hand_group
    c.args.seat.now.place.me.0.seat
    c.args.number (g.L.Revision.machine.runs c.args.runner) c.args.behind c.args.hand.now c.requires.state
    c.requires.hand

pub go_on-requires-clause-comes : goal.go_on-requires-clause-comes
go_on-requires-clause-comes g c =
    (g.L.Revision.machine.runs c.args.runner, c.requires.state, c.in-Ok.ensures.event)

pub go_on-requires-clause-group : goal.go_on-requires-clause-group
go_on-requires-clause-group g c =
    subst (λ z. IsEventOf g.L.Revision.machine g.L.Legs.fork_group z c.in-Ok.event) (sym c.requires.hand.0)
    c.in-Ok.ensures.group

pub give_up_behind-requires : goal.give_up_behind-requires
give_up_behind-requires g c =
    let of = hand_on g.L.Legs.begins g.L.Legs.hand_group c.args.seat.now.place.me.0.seat c.args.hand.now
    c.run_leg.new.hand
    c.requires.hand c.run_leg.ensures.hand in
    behind_of g.L.Revision.machine g.L.Revision.ends g.L.Legs.begins g.L.Legs.hand_group c.args.seat.now.place.me.0.seat
    c.args.number (g.L.Revision.machine.runs c.args.runner) c.args.behind c.run_leg.new.hand c.requires.state of
