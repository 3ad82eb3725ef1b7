-- Answers of run_law: its one clause, that what a hub leaves is a run of the code, is a lemma.
use Rattle.run_revision.proofs.CodeRuns.{of_code}
use Rattle.run_revision.proofs.laws.run_law.Goals as goal

pub returns : goal.returns
returns c = of_code
