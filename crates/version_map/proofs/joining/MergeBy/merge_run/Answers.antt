-- Answers of MergeBy::merge_run: by default nothing is put.
use Rattle.version_map.proofs.RowParts.{none_put}
use Rattle.version_map.proofs.joining.MergeBy.merge_run.Goals as goal

pub returns-clause-put : goal.returns-clause-put
returns-clause-put g c = none_put _ c.args.mains.now c.args.written.now c.args.at c.args.values.now
