-- Answers of TurnHub::join_or_take: the first try tells of the view before the call, and so do those behind it.
use Rattle.std.proofs.Common.{subst}
use Rattle.turn_hub.specs.Answers.{JoinedOn}
use Rattle.turn_hub.proofs.Strays.{before_same}
use Rattle.turn_hub.proofs.hub.TurnHub.join_or_take.Goals as goal

pub returns-in-Ok-clause-answer : goal.returns-in-Ok-clause-answer
returns-in-Ok-clause-answer g c =
    let v = c.args.seat.now.place.me.0 in
    c.in-Ok.ensures.came.1 v (before_same g.L.Revision.machine g.L.Revision.ends v)

pub returns-in-Err-clause-answer : goal.returns-in-Err-clause-answer
returns-in-Err-clause-answer g c =
    let m = g.L.Revision.machine in
    let ends = g.L.Revision.ends in
    let v = c.args.seat.now.place.me.0 in
    let sought = c.in-Err.ensures.sought in
    subst (λ x. JoinedOn m ends g.L.Revision.claimed g.L.Revision.stopped g.L.Revision.claimed_group
    g.L.Revision.stopped_group v.seat c.seek_join_on-step.new.seat.place.me.0.seat c.args.of x
    c.seek_join_on-step.result)
    sought.0 (c.seek_join_on-step.ensures.answer v sought.1)
