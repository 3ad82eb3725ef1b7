-- Answers of AtFork::line: the revision stands for the state, so its register has the line charged last.
use Rattle.std.proofs.Common.{sym}
use Rattle.rev_vm.proofs.Boxes.{same_fork}
use Rattle.rev_vm.proofs.fork.AtFork.line.Goals as goal

pub returns : goal.returns
returns t c =
    λ g s args h. (same_fork (sym c.deref.ensures) g c.args.self.now.block s args h).stands.stands.here.run.line
