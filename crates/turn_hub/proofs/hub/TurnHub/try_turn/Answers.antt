-- Answers of TurnHub::try_turn: a look that misses changes nothing, so later looks take the turn as the first would.
use Rattle.std.proofs.Common.{subst}
use Rattle.turn_hub.specs.Turns.{IsTaken}
use Rattle.turn_hub.proofs.hub.TurnHub.try_turn.Goals as goal

pub returns-clause-took : goal.returns-clause-took
returns-clause-took g c = λ yes.
    subst (λ m. IsTaken g.L.Revision.machine g.L.Revision.ends m c.keep_looking.new.place.me)
    (c.look_for_turn.ensures.missed c.if-look_for_turn.false) (c.keep_looking.ensures.took yes)
