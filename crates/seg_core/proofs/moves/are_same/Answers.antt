-- Answers of are_same: lists of unequally many copies are not equal.
use Rattle.std.proofs.Common.{suc}
use Rattle.seg_core.proofs.Refers.{copies_apart}
use Rattle.seg_core.proofs.moves.are_same.Goals as goal

pub returns-then-have-times : goal.returns-then-have-times
returns-then-have-times c = λ e. c.if-have-times.true
    (copies_apart c.args.have c.args.times (suc c.args.own) (suc c.args.segment) e)
