-- Answers of find_fault: code that is found small has small blocks, and fewer than 2^32 of them.
use Rattle.std.proofs.Common.{◌∙◌, sym}
use Rattle.code_verifier.proofs.Small.{all_small, few_blocks}
use Rattle.code_verifier.proofs.verifier.find_fault.Goals as goal

pub check_blocks-requires-clause-small : goal.check_blocks-requires-clause-small
check_blocks-requires-clause-small c = all_small c.args.code.now (sym c.is_small.ensures ∙ c.if-not-is_small.false)

pub check_blocks-requires-clause-few : goal.check_blocks-requires-clause-few
check_blocks-requires-clause-few c = few_blocks c.args.code.now (sym c.is_small.ensures ∙ c.if-not-is_small.false)
