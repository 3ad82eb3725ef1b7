-- Answers of TurnHub::fork_and_keep: where no round was made nothing has changed, and the same is done by the turn.
use Rattle.std.proofs.Common.{rules, ◌≡◌, None, sym, subst}
use Rattle.hub_core.specs.Seats.{Owes}
use Rattle.turn_hub.proofs.hub.TurnHub.fork_and_keep.Goals as goal

pub keep_by_turn-requires-clause-event : goal.keep_by_turn-requires-clause-event
keep_by_turn-requires-clause-event g c =
    let e = c.requires.event in
    let none : c.make_round.result ≡ None = search rules in (
      e.0,
      e.1,
      subst (λ x. Owes g.L.Revision.machine g.L.Revision.ends x.0.seat c.args.joinee c.args.of e.0)
          (sym (c.make_round.ensures.missed none)) e.2,
      e.3,
    )
