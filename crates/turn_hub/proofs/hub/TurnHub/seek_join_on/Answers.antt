-- Answers of TurnHub::seek_join_on: what the last try tells is told of the view before the first.
use Rattle.std.proofs.Common.{sym, ◌∙◌, subst}
use Rattle.hub_core.specs.Seats.{HasJoin}
use Rattle.turn_hub.specs.Answers.{JoinedOn}
use Rattle.turn_hub.proofs.Strays.{before_over}
use Rattle.turn_hub.proofs.hub.TurnHub.seek_join_on.Goals as goal

pub returns-in-Ok-clause-answer : goal.returns-in-Ok-clause-answer
returns-in-Ok-clause-answer g c = λ v before.
    let m = g.L.Revision.machine in
    let ends = g.L.Revision.ends in
    let i = c.loop.invariant in
    subst (λ x. JoinedOn m ends g.L.Revision.claimed g.L.Revision.stopped g.L.Revision.claimed_group
    g.L.Revision.stopped_group v.seat c.try_join_on.new.seat.place.me.0.seat c.args.of x c.in-Ok.step)
    i.4 (c.in-Ok.ensures.came.1 v (before_over m ends _ _ _ before i.1))

pub loop-preserved : goal.loop-preserved
loop-preserved g c =
    let m = g.L.Revision.machine in
    let ends = g.L.Revision.ends in
    let i = c.loop.invariant in
    let t = c.in-Err.ensures.sought in (
      c.try_join_on.ensures.own ∙ i.0,
      before_over m ends _ _ _ i.1 t.1,
      subst (λ x. HasJoin m ends c.try_join_on.new.seat.place.me.0.seat c.args.of x) (sym t.0) t.2,
      t.3 ∙ i.3,
      t.0 ∙ i.4,
    )
