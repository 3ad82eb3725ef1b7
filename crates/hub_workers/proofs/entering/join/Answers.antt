-- Answers of join: where the joiner waits the seat is the same, and what it took is all that it has next.
use Rattle.hub_workers.proofs.Events.{came_so, waited_on}
use Rattle.hub_workers.proofs.Handed.{came_only, waited_only}
use Rattle.hub_workers.proofs.Owing.{joinee_stays, joinee_only}
use Rattle.hub_workers.proofs.entering.join.Goals as goal

pub returns-in-Waits-clause-same : goal.returns-in-Waits-clause-same
returns-in-Waits-clause-same g c =
    (waited_on g.L.Revision.machine g.L.Revision.ends g.L.Revision.claimed g.L.Revision.stopped
    g.L.Revision.claimed_group g.L.Revision.stopped_group c.in-Waits.ensures.answer
    c.after_joiner.ensures).0

pub returns-in-Waits-clause-next : goal.returns-in-Waits-clause-next
returns-in-Waits-clause-next g c =
    (waited_on g.L.Revision.machine g.L.Revision.ends g.L.Revision.claimed g.L.Revision.stopped
    g.L.Revision.claimed_group g.L.Revision.stopped_group c.in-Waits.ensures.answer
    c.after_joiner.ensures).1

pub returns-in-Waits-clause-only : goal.returns-in-Waits-clause-only
returns-in-Waits-clause-only g c =
    waited_only g.L.Revision.machine g.L.Revision.ends g.L.Revision.claimed g.L.Revision.stopped
    g.L.Revision.claimed_group g.L.Revision.stopped_group c.in-Waits.ensures.answer c.after_joiner.ensures

pub returns-in-Came-clause-same : goal.returns-in-Came-clause-same
returns-in-Came-clause-same g c =
    (came_so g.L.Revision.machine g.L.Revision.ends g.L.Revision.claimed g.L.Revision.stopped
    g.L.Revision.claimed_group g.L.Revision.stopped_group c.args.seat.now.place.me.0.seat
    c.join_or_take.new.seat.place.me.0.seat c.args.number c.args.at c.in-Came.answer c.requires.group
    c.in-Came.ensures.answer.1).0

pub returns-in-Came-clause-next : goal.returns-in-Came-clause-next
returns-in-Came-clause-next g c =
    (came_so g.L.Revision.machine g.L.Revision.ends g.L.Revision.claimed g.L.Revision.stopped
    g.L.Revision.claimed_group g.L.Revision.stopped_group c.args.seat.now.place.me.0.seat
    c.join_or_take.new.seat.place.me.0.seat c.args.number c.args.at c.in-Came.answer c.requires.group
    c.in-Came.ensures.answer.1).1

pub returns-in-Came-clause-only : goal.returns-in-Came-clause-only
returns-in-Came-clause-only g c =
    came_only g.L.Revision.machine g.L.Revision.ends g.L.Revision.claimed g.L.Revision.stopped
    g.L.Revision.claimed_group g.L.Revision.stopped_group c.args.seat.now.place.me.0.seat
    c.join_or_take.new.seat.place.me.0.seat c.args.number c.args.at c.in-Came.answer c.in-Came.ensures.answer.1

pub returns-in-Joinee-clause-same : goal.returns-in-Joinee-clause-same
returns-in-Joinee-clause-same g c =
    (joinee_stays g.L.Revision.machine g.L.Revision.ends c.in-Joinee.joinee c.args.number c.requires.event
    c.requires.group c.in-Joinee.ensures.answer.0 c.in-Joinee.ensures.answer.1).0

pub returns-in-Joinee-clause-next : goal.returns-in-Joinee-clause-next
returns-in-Joinee-clause-next g c =
    let s = joinee_stays g.L.Revision.machine g.L.Revision.ends c.in-Joinee.joinee c.args.number c.requires.event
    c.requires.group c.in-Joinee.ensures.answer.0 c.in-Joinee.ensures.answer.1 in
    ((s.1, s.3), s.2)

pub returns-in-Joinee-clause-only : goal.returns-in-Joinee-clause-only
returns-in-Joinee-clause-only g c = λ alone.
    joinee_only g.L.Revision.machine g.L.Revision.ends c.in-Joinee.joinee c.args.number c.in-Joinee.ensures.answer.1
    alone
