-- Answers of PlanMerges::merge_run: what the plan puts stands beside any other merges, so beside the versioned ones.
use Rattle.kernel_cases.specs.Versioned.{versioned}
use Rattle.kernel_cases.proofs.merges.PlanMergesMergeBy.merge_run.Goals as goal

pub returns-clause-put : goal.returns-clause-put
returns-clause-put g c = c.merge_run.ensures.put versioned
