-- Answers of schedule_laws: the code of a program is accepted, and of accepted code each clause is a lemma.
use Rattle.generated_blocks.proofs.Accepted.{code_accepted}
use Rattle.program_meaning.proofs.Schedules.{agrees, legs_agree, ends_agree, outcomes_agree}
use Rattle.program_meaning.proofs.simulation.schedule_laws.Goals as goal

pub returns : goal.returns
returns c = record {
  agrees = λ s well. agrees s well (code_accepted s.program well);
  legs = λ s well. legs_agree s well (code_accepted s.program well);
  ends = λ s well. ends_agree s well (code_accepted s.program well);
  outcomes = λ s well. outcomes_agree s well (code_accepted s.program well);
}
