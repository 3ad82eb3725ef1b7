-- Answers of join_law: one lemma says that joiner and code are the same behind a join, however the joinee ended.
use Rattle.program_meaning.proofs.Joins.{joins_same}
use Rattle.program_meaning.proofs.at_joins.join_law.Goals as goal

pub returns : goal.returns
returns c = λ s well r q l left d at phase kinded j k same ends kindedj.
    joins_same s well r q l left d at phase kinded j k same ends kindedj
