-- Answers of writing_law: that what is written is what is shown of an answer is a lemma.
-- Answers of writing_law: that what is written is what is shown of an answer is a lemma.
use Rattle.rev_top.proofs.Writing.{writing}
use Rattle.rev_top.proofs.law.writing_law.Goals as goal

pub returns : goal.returns
returns c = writing
