-- Answers of TurnHub::halt: the turn that was entered is given back with a halt.
use Rattle.turn_hub.proofs.hub.TurnHub.halt.Goals as goal

pub returns-clause-halted : goal.returns-clause-halted
returns-clause-halted g c = c.put_home_halted.ensures.halted c.args.seat.now.place.me.0 c.enter-entered.ensures.told
