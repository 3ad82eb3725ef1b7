-- Answers of drive: behind a step the seat is still the hub's, and has what the step left to go on with.
use Rattle.std.proofs.Common.{sym, ◌∙◌, subst}
use Rattle.hub_workers.specs.Handed.{OnlyNext}
use Rattle.hub_workers.proofs.worker.drive.Goals as goal

pub loop-preserved-in-Run : goal.loop-preserved-in-Run
loop-preserved-in-Run g c =
    let i = c.loop.invariant in
    let e = c.step-next.ensures in (
      e.own ∙ sym c.requires.own,
      (e.same.0 ∙ i.1.0, e.same.1 ∙ i.1.1, e.same.2 ∙ i.1.2),
      e.hand,
      e.next,
      λ o. e.only (subst (λ n. OnlyNext c.loop.seat.place.me.0.seat n) c.in-Run.is (i.4 o)),
    )
