-- Answers of TurnHub::keep_in: what a try tells is told of the value that the seat had at first.
use Rattle.std.proofs.Common.{sym, ◌∙◌, subst, arith}
use Rattle.hub_core.specs.Seats.{Owes}
use Rattle.turn_hub.proofs.hub.TurnHub.keep_in.Goals as goal

pub try_keep-requires-clause-event : goal.try_keep-requires-clause-event
try_keep-requires-clause-event g c =
    let e = c.requires.event in (
      e.0,
      e.1,
      subst (λ x. Owes g.L.Revision.machine g.L.Revision.ends x c.args.joinee c.args.of e.0) (sym
          c.loop.invariant.5) e.2,
      e.3,
    )

pub returns-in-Made-clause-told : goal.returns-in-Made-clause-told
returns-in-Made-clause-told g c =
    let t = c.in-Made.ensures.told in
    (t.1, t.2, (λ v h l owes. t.3 v (c.loop.invariant.8 v h) l owes))

pub loop-preserved : goal.loop-preserved
loop-preserved g c =
    let i = c.loop.invariant in
    let t = c.in-Missed.ensures.told in
    let a = t.6 in
    let b = i.7 in (
      c.try_keep.ensures.own ∙ i.0,
      t.0,
      t.1,
      t.2,
      t.3 ∙ i.4,
      t.4 ∙ i.5,
      t.5 ∙ i.6,
      omega arith,
      (λ v h. t.7 v (i.8 v h)),
    )

pub returns-in-Halted-clause-told : goal.returns-in-Halted-clause-told
returns-in-Halted-clause-told g c =
    let t = c.in-Halted.ensures.told in (t.1 ∙ c.loop.invariant.4, (λ v h. t.2 v (c.loop.invariant.8 v h)))
