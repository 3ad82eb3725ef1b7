-- Answers of leg: it is what leg_meeting gives, without the entry for the list of forks and joins.
use Rattle.code_world.proofs.world.leg.Goals as goal

pub leg_meeting-requires-clause-reached : goal.leg_meeting-requires-clause-reached
leg_meeting-requires-clause-reached g c = c.requires.reached

pub leg_meeting-requires-clause-size : goal.leg_meeting-requires-clause-size
leg_meeting-requires-clause-size g c = c.requires.size

pub leg_meeting-requires-clause-merges : goal.leg_meeting-requires-clause-merges
leg_meeting-requires-clause-merges g c = c.requires.merges

pub returns-clause-answer : goal.returns-clause-answer
returns-clause-answer g c = c.in_ok-next.ensures.answer

pub returns-clause-touches : goal.returns-clause-touches
returns-clause-touches g c = c.in_ok-next.ensures.touches
