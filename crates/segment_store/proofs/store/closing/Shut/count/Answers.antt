-- Answers of Shut::count: the first word counts the holds, so what is out is that less the holds that were gathered.
use Rattle.std.proofs.Common.{arith}
use Rattle.segment_store.proofs.store.closing.Shut.count.Goals as goal

pub returns-clause-out : goal.returns-clause-out
returns-clause-out c = let e = c.head.ensures.1 in omega arith
