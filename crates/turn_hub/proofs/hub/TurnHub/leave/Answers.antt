-- Answers of TurnHub::leave: the seat has the passes that it had, that of the joinee too.
use Rattle.std.proofs.Common.{ap, arith}
use Rattle.hub_core.specs.Passes.{named}
use Rattle.hub_core.proofs.Passes.{pass_named}
use Rattle.turn_hub.proofs.hub.TurnHub.leave.Goals as goal

pub leave_in-requires-clause-joinee : goal.leave_in-requires-clause-joinee
leave_in-requires-clause-joinee g c =
    let on = g.L.Revision.machine.on c.args.at in
    let old = c.args.seat.now.place.me.0.seat.passes in
    let joinee = c.requires.joinee in
    let some = pass_named old on joinee.0 joinee.1 in
    let same = ap (named on) c.in-Some.ensures.told.3.same.3 in
    omega arith
