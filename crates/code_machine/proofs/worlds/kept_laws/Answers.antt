-- Answers of kept_laws: legs keep states typed, so what is not at work has ended, and all outcomes agree.
use Rattle.code_machine.proofs.Typing.{states_proper, worlds_proper, stops_over}
use Rattle.code_machine.proofs.Ending.{none_blocked}
use Rattle.code_machine.proofs.Outcomes.{one_outcome}
use Rattle.code_machine.proofs.worlds.kept_laws.Goals as goal

pub returns : goal.returns
returns c = record {
  states = states_proper;
  worlds = worlds_proper;
  over = stops_over;
  unblocked = none_blocked;
  outcome = one_outcome;
}
