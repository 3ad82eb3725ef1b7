-- Answers of TurnHub::keep_looking: a look that misses changes nothing, so a later one takes the turn as well.
use Rattle.std.proofs.Common.{subst}
use Rattle.turn_hub.specs.Turns.{IsTaken}
use Rattle.turn_hub.proofs.hub.TurnHub.keep_looking.Goals as goal

pub returns-then-look_for_turn-clause-took : goal.returns-then-look_for_turn-clause-took
returns-then-look_for_turn-clause-took g c = λ _.
    subst (λ m. IsTaken g.L.Revision.machine g.L.Revision.ends m c.look_for_turn.new.place.me) c.loop-number.invariant.1
    (c.look_for_turn.ensures.took c.if-look_for_turn.true)
