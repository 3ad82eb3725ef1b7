-- Answers of merge_laws: a word stands for one number, so merges by words give those of numbers, and so on in rows.
use Rattle.fun_run.proofs.Blocks.{blocks_give}
use Rattle.fun_run.proofs.Composing.{composes_alike}
use Rattle.fun_run.proofs.laws.merge_laws.Goals as goal

pub returns-clause-blocks : goal.returns-clause-blocks
returns-clause-blocks c = blocks_give

pub returns-clause-compositions : goal.returns-clause-compositions
returns-clause-compositions c = composes_alike
