-- Answers of TurnHub::find_round: a try that misses changes nothing, so the next may be made as well.
use Rattle.std.proofs.Common.{◌≡◌, ℕ, sym, subst}
use Rattle.revision_machine.specs.Numbered.{Bears}
use Rattle.hub_core.specs.Seats.{Owes}
use Rattle.turn_hub.proofs.hub.TurnHub.find_round.Goals as goal

pub try_round-found-requires-clause-event : goal.try_round-found-requires-clause-event
try_round-found-requires-clause-event g c =
    let m = g.L.Revision.machine in
    subst (λ me.
    (l : g.row.L-State.Denot) × (forker : ℕ → g.row.L-State.Denot)
    × Owes m g.L.Revision.ends me.0.seat c.args.joinee c.args.of l × (m.next l ≡ Bears forker (m.runs
    c.args.child.now)))
    (sym c.loop.invariant.1) c.requires.event
