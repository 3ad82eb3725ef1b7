-- Answers of list_law: its one clause, that the texts of lists are those of the grammar, is a lemma.
use Rattle.rev_words.proofs.Lists.{exact}
use Rattle.rev_words.proofs.laws.list_law.Goals as goal

pub returns : goal.returns
returns c = exact
