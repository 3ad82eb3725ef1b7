-- Answers of come: a joiner that an end has stopped or that outlives it has the state behind its join.
use Rattle.std.proofs.Common.{rules, inl, ◌∙◌}
use Rattle.turn_hub.specs.declared.answers.JoinAnswer.TheVariants as join
use Rattle.hub_workers.specs.Work.{HasAnswer}
use Rattle.hub_workers.proofs.Behinds.{behind_as}
use Rattle.hub_workers.proofs.Events.{have_met}
use Rattle.hub_workers.proofs.coming.come.Goals as goal

pub enter-requires-clause-comes : goal.enter-requires-clause-comes
enter-requires-clause-comes g c =
    let answer : HasAnswer g.L.Revision.machine g.L.Revision.ends g.L.Revision.claimed g.L.Revision.stopped
    g.L.Revision.claimed_group g.L.Revision.stopped_group c.args.seat.now.place.me.0.seat c.args.number c.args.behind
    (join.Trapped c.in-Trapped.stopped) = search rules in
    let s = answer.0 in
    let met = have_met g.L.Revision.machine g.L.Revision.ends g.L.Legs.begins g.L.Legs.hand_group
    c.args.seat.now.place.me.0.seat
    c.args.number s.0 s.1 c.args.hand.now s.5 c.requires.hand in
    (g.L.Revision.machine.joined s.0 s.1, s.6, inl (c.retire-end.ensures.state s.0 s.1 s.2 s.3 s.4 met))

pub returns-in-Dropped-clause-next : goal.returns-in-Dropped-clause-next
returns-in-Dropped-clause-next g c =
    let answer : HasAnswer g.L.Revision.machine g.L.Revision.ends g.L.Revision.claimed g.L.Revision.stopped
    g.L.Revision.claimed_group g.L.Revision.stopped_group c.args.seat.now.place.me.0.seat c.args.number c.args.behind
    (join.Dropped c.in-Dropped.at) = search rules in
    let s = answer.0 in (
      behind_as g.L.Revision.machine g.L.Revision.ends c.args.seat.now.place.me.0.seat c.args.number
          (g.L.Revision.machine.joined c.in-Dropped.at s.0) (g.L.Revision.machine.runs c.dropped.result) c.args.behind
          s.3
          (c.dropped.ensures.state s.0 s.2),
      c.dropped.ensures.group ∙ answer.1,
    )
