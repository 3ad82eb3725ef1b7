-- Answers of birth_law: its one clause, that births name the paths of the world, is a lemma.
use Rattle.thread_runs.proofs.Naming.{names_theirs}
use Rattle.thread_runs.proofs.laws.birth_law.Goals as goal

pub returns : goal.returns
returns c = names_theirs
