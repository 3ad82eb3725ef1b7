-- Answers of AtJoin::line: the joiner stands for the state, so its register has the line charged last.
use Rattle.std.proofs.Common.{sym}
use Rattle.rev_vm.proofs.Boxes.{same_join}
use Rattle.rev_vm.proofs.join.AtJoin.line.Goals as goal

pub returns : goal.returns
returns t c = λ g s h.
    (same_join (sym c.deref.ensures) g c.args.self.now.is_try c.args.self.now.on s
    h).stands.stands.here.run.line
