-- Answers of joiner_laws: two lemmas, that a leg comes to its join, and that joiner and end are of one run.
use Rattle.run_revision.proofs.JoinersAndEnds.{comes_to_join, meetings_fit}
use Rattle.run_revision.proofs.code_laws.joiner_laws.Goals as goal

pub returns-clause-comes : goal.returns-clause-comes
returns-clause-comes c = comes_to_join

pub returns-clause-fit : goal.returns-clause-fit
returns-clause-fit c = meetings_fit
