-- Answers of Delta::new: all rows of the mask are 0, and so is the summary.
use Rattle.version_map.proofs.Summaries.{summary_none, unset_none}
use Rattle.version_map.proofs.delta.Delta.new.Goals as goal

pub invariant_of-result-clause-clean : goal.invariant_of-result-clause-clean
invariant_of-result-clause-clean c = λ l le. unset_none _ _ l _ c.in_ok-zeros.ensures

pub invariant_of-result-clause-summed : goal.invariant_of-result-clause-summed
invariant_of-result-clause-summed c = summary_none _ _ _ c.in_ok-zeros.ensures
