-- Answers of ran_law: its one clause, that what happened says what the run was, is a lemma.
use Rattle.rev_top.proofs.Rans.{ran_says}
use Rattle.rev_top.proofs.law.ran_law.Goals as goal

pub returns : goal.returns
returns c = ran_says
