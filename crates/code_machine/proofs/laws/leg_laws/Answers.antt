-- Answers of leg_laws: a leg is what the instructions lead to, since each typed state goes on up to an event.
use Rattle.code_machine.proofs.Legs.{leg_is, has_leg}
use Rattle.code_machine.proofs.laws.leg_laws.Goals as goal

pub returns-clause-steps : goal.returns-clause-steps
returns-clause-steps g c = λ run ok s o l. leg_is run ok s o l

pub returns-clause-exist : goal.returns-clause-exist
returns-clause-exist g c = λ run ok s t. has_leg run ok s t
