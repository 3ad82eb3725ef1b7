-- Answers of TurnHub::take_turn: to take the turn is a step that the rule allows to an idle seat.
use Rattle.std.proofs.Common.{rules}
use Rattle.hub_core.proofs.Turning.{take}
use Rattle.turn_hub.proofs.hub.TurnHub.take_turn.Goals as goal

pub compare_exchange-requires : goal.compare_exchange-requires
compare_exchange-requires g c =
    let idle = c.requires.1 in
    (c.requires.0, search rules, take g.L.Revision.machine g.L.Revision.ends _ _ _ _ idle.0 idle.1 idle.2)

pub returns-clause-took : goal.returns-clause-took
returns-clause-took g c = λ e. c.compare_exchange.ensures.2.0 (search rules)
