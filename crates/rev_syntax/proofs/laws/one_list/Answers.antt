-- Answers of one_list: its one clause, that two lists of tokens of a text are equal, is a lemma.
use Rattle.rev_syntax.proofs.Unique.{one-list}
use Rattle.rev_syntax.proofs.laws.one_list.Goals as goal

pub returns : goal.returns
returns c = one-list
