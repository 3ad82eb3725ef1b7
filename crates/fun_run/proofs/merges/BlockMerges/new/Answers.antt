-- Answers of BlockMerges::new: verified code has no fault, so its merges are those made of the code.
use Rattle.std.proofs.Common.{◌∙◌, sym}
use Rattle.fun_run.proofs.merges.BlockMerges.new.Goals as goal

pub returns-clause-merges : goal.returns-clause-merges
returns-clause-merges c = λ g e. c.in_ok-merges.ensures.merges g (e ∙ sym c.code.ensures.code)
