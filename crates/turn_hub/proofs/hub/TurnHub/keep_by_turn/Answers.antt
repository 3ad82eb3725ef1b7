-- Answers of TurnHub::keep_by_turn: the seat has the passes that it had, so what it owes it owes in its turn.
use Rattle.turn_hub.proofs.Finding.{owes_on}
use Rattle.turn_hub.proofs.hub.TurnHub.keep_by_turn.Goals as goal

pub keep_in-requires-clause-event : goal.keep_in-requires-clause-event
keep_in-requires-clause-event g c =
    let e = c.requires.event in
    let h = c.in_ok-desk.ensures.told.3 in (
      e.0,
      e.1,
      owes_on g.L.Revision.machine g.L.Revision.ends c.args.seat.now.place.me.0.seat c.enter_but.new.place.me.0.seat
          c.args.joinee c.args.of e.0 h.same.1 h.same.3 e.2,
      e.3,
    )
