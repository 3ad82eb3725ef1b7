-- Answers of AtJoin::fuel: the joiner stands for the state, so its register has the fuel that is left in the state.
use Rattle.std.proofs.Common.{sym}
use Rattle.rev_vm.proofs.Boxes.{same_join}
use Rattle.rev_vm.proofs.join.AtJoin.fuel.Goals as goal

pub returns-clause-state : goal.returns-clause-state
returns-clause-state t c = λ g s h.
    (same_join (sym c.deref.ensures) g c.args.self.now.is_try c.args.self.now.on s
    h).stands.stands.here.run.fuel
