-- Answers of happen_to: the report that was made is the one that is delivered, and so the call's answer is delivered.
use Rattle.rev_top.proofs.Rans.{happened}
use Rattle.rev_top.proofs.happening.happen_to.Goals as goal

pub returns-in-Ok-clause-happened : goal.returns-in-Ok-clause-happened
returns-in-Ok-clause-happened g c = happened c.in-Ok.ensures.report c.deliver.ensures
