-- Answers of reached_laws: the start is reached and legs keep it so, and the limits come of the fuel of the start.
use Rattle.code_machine_laws.proofs.Reaching.{start_reached, legs_reached, joinees, main_stands, small, joins_fit}
use Rattle.code_machine_laws.proofs.laws.reached_laws.Goals as goal

pub returns-clause-start : goal.returns-clause-start
returns-clause-start c = start_reached

pub returns-clause-legs : goal.returns-clause-legs
returns-clause-legs c = legs_reached

pub returns-clause-joinees : goal.returns-clause-joinees
returns-clause-joinees c = joinees

pub returns-clause-main : goal.returns-clause-main
returns-clause-main c = main_stands

pub returns-clause-small : goal.returns-clause-small
returns-clause-small c = small

pub returns-clause-fuel : goal.returns-clause-fuel
returns-clause-fuel c = joins_fit
