-- Answers of TurnHub::wait_turn: a try that misses changes nothing, so a later one takes the turn as the first would.
use Rattle.std.proofs.Common.{◌∙◌, subst}
use Rattle.turn_hub.specs.Turns.{IsTaken}
use Rattle.turn_hub.proofs.hub.TurnHub.wait_turn.Goals as goal

pub returns-then-try_turn : goal.returns-then-try_turn
returns-then-try_turn g c = record {
  own = c.try_turn.ensures.own ∙ c.loop.invariant.0;
  took = subst (λ m. IsTaken g.L.Revision.machine g.L.Revision.ends m c.try_turn.new.place.me) c.loop.invariant.1
      (c.try_turn.ensures.took c.if-try_turn.true);
}
