-- Answers of comes_before: where the lists first differ, or one of them ends, what is left decides for all.
use Rattle.std.proofs.Common.{arith, rules}
use Rattle.rev_num.proofs.PostOrder.{before-drop_all}
use Rattle.rev_num.proofs.path.comes_before.Goals as goal

pub returns : goal.returns
returns c = grind (arith, rules, before-drop_all c.args.q.now c.args.r.now c.loop-i.i)
