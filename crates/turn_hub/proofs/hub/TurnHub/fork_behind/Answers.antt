-- Answers of TurnHub::fork_behind: the seat has the passes that it had, so what it owes it owes in its turn.
use Rattle.turn_hub.proofs.Finding.{owes_on}
use Rattle.turn_hub.proofs.hub.TurnHub.fork_behind.Goals as goal

pub behind_in-requires-clause-event : goal.behind_in-requires-clause-event
behind_in-requires-clause-event g c =
    let e = c.requires.event in
    let h = c.in-Some.ensures.told.3 in (
      e.0,
      e.1,
      owes_on g.L.Revision.machine g.L.Revision.ends c.args.seat.now.place.me.0.seat
          c.enter_but-entered.new.place.me.0.seat
          c.args.joinee c.args.of e.0 h.same.1 h.same.3 e.2,
      e.3,
    )
