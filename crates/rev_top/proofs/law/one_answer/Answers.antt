-- Answers of one_answer: its one clause, that answers to the same words and bytes agree, is a lemma.
use Rattle.rev_top.proofs.OneAnswers.{one_answer_to}
use Rattle.rev_top.proofs.law.one_answer.Goals as goal

pub returns : goal.returns
returns c = one_answer_to
