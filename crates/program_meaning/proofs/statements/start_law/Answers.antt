-- Answers of start_law: its one clause, that the first states of main are related, is a lemma.
use Rattle.program_meaning.proofs.Starts.{main_stands}
use Rattle.program_meaning.proofs.statements.start_law.Goals as goal

pub returns : goal.returns
returns c = λ s well n b here is fuel. main_stands s well n b here is fuel
