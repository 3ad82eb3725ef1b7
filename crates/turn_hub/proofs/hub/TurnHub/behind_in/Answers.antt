-- Answers of TurnHub::behind_in: what a try tells is told of the value and the child that the seat had at first.
use Rattle.std.proofs.Common.{sym, ap, ◌∙◌, subst, arith}
use Rattle.revision_machine.specs.Numbered.{Bears}
use Rattle.hub_core.specs.Seats.{Owes}
use Rattle.turn_hub.specs.Answers.{ForkedBehind}
use Rattle.turn_hub.proofs.hub.TurnHub.behind_in.Goals as goal

pub try_behind-requires-clause-event : goal.try_behind-requires-clause-event
try_behind-requires-clause-event g c =
    let i = c.loop.invariant in
    let e = c.requires.event in
    let m = g.L.Revision.machine in (
      e.0,
      e.1,
      subst (λ x. Owes m g.L.Revision.ends x c.args.joinee c.args.of e.0) (sym i.5) e.2,
      e.3 ∙ ap (λ x. Bears e.1 (m.runs x)) (sym i.9),
    )

pub returns-in-Made-clause-ok : goal.returns-in-Made-clause-ok
returns-in-Made-clause-ok g c =
    let i = c.loop.invariant in
    let m = g.L.Revision.machine in
    let ends = g.L.Revision.ends in
    let t = c.in-Made.ensures.told in (
      t.1,
      (λ v h l owes.
          subst (λ x. ForkedBehind m ends v.seat c.try_behind.new.place.me.0.seat c.args.joinee c.args.of l x
          c.in-Made.number)
          i.9 (t.2 v (i.8 v h) l owes)),
    )

pub loop-preserved : goal.loop-preserved
loop-preserved g c =
    let i = c.loop.invariant in
    let t = c.in-Missed.ensures.told in
    let a = t.6 in
    let b = i.7 in (
      c.try_behind.ensures.own ∙ i.0,
      t.0,
      t.1,
      t.2,
      t.3 ∙ i.4,
      t.4 ∙ i.5,
      t.5 ∙ i.6,
      omega arith,
      (λ v h. t.7 v (i.8 v h)),
      t.8 ∙ i.9,
    )

pub returns-in-Halted-clause-err : goal.returns-in-Halted-clause-err
returns-in-Halted-clause-err g c =
    let i = c.loop.invariant in
    let t = c.in-Halted.ensures.told in
    (t.3 ∙ i.9, t.1 ∙ i.4, (λ v h. t.2 v (i.8 v h)))
