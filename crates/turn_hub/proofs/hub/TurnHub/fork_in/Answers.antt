-- Answers of TurnHub::fork_in: what a try tells is told of the value and the child that the seat had at first.
use Rattle.std.proofs.Common.{sym, ◌∙◌, subst, arith}
use Rattle.hub_core.specs.Seats.{HasFork}
use Rattle.turn_hub.specs.Answers.{Forked}
use Rattle.turn_hub.proofs.hub.TurnHub.fork_in.Goals as goal

pub returns-in-Made-clause-ok : goal.returns-in-Made-clause-ok
returns-in-Made-clause-ok g c = λ v h event.
    let i = c.loop.invariant in
    let m = g.L.Revision.machine in
    let ends = g.L.Revision.ends in
    subst (λ x. Forked m ends v.seat c.try_fork.new.place.me.0.seat c.args.of x c.in-Made.number) i.9
    (c.in-Made.ensures.told.2 v (i.8 v h) (subst (λ x. HasFork m ends v.seat c.args.of x) (sym i.9) event))

pub loop-preserved : goal.loop-preserved
loop-preserved g c =
    let i = c.loop.invariant in
    let t = c.in-Missed.ensures.told in
    let a = t.6 in
    let b = i.7 in (
      c.try_fork.ensures.own ∙ i.0,
      t.0,
      t.1,
      t.2,
      t.3 ∙ i.4,
      t.4 ∙ i.5,
      t.5 ∙ i.6,
      omega arith,
      (λ v h. t.7 v (i.8 v h)),
      t.8 ∙ i.9,
    )

pub returns-in-Halted-clause-err : goal.returns-in-Halted-clause-err
returns-in-Halted-clause-err g c =
    let i = c.loop.invariant in
    let t = c.in-Halted.ensures.told in
    (t.3 ∙ i.9, (λ v h. t.2 v (i.8 v h)))
