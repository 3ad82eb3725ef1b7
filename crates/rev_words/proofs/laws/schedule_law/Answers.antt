-- Answers of schedule_law: its one clause, that the texts of schedules are those of the grammar, is a lemma.
use Rattle.rev_words.proofs.Schedules.{exact}
use Rattle.rev_words.proofs.laws.schedule_law.Goals as goal

pub returns : goal.returns
returns c = exact
