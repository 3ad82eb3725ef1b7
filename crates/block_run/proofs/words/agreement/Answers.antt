-- Answers of agreement: one lemma takes each instruction that stays in the block, on words with a kind and without.
use Rattle.block_run.proofs.Rows.{rows}
use Rattle.block_run.proofs.words.agreement.Goals as goal

pub returns : goal.returns
returns c = λ s b st r read ok stands x h. rows st r read stands s b ok x h
