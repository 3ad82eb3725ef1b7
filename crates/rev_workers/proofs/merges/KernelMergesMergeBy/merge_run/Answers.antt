-- Answers of KernelMerges::merge_run: what the plan puts, it puts beside any other merges, so beside these.
use Rattle.rev_workers.proofs.merges.KernelMergesMergeBy.merge_run.Goals as goal

pub returns-clause-put : goal.returns-clause-put
returns-clause-put g c = c.merge_run.ensures.put (g.M.MergeBy.merges c.args.self.now.inner)
