-- `Runner::block`: the block of the state.
use Rattle.std.proofs.Common.{◌∙◌, sym, ap}
use Rattle.rev_code.specs.State.{State}
use Rattle.rev_vm.proofs.Born.{begun_as, born_as}
use Rattle.rev_vm.proofs.Boxes.{same_at}
use Rattle.rev_vm.proofs.runner.Runner.block.Goals as goal

pub returns-in-Begun : goal.returns-in-Begun
returns-in-Begun t c = λ g s h.
    sym (same_at (sym c.deref.ensures) g s
    (begun_as g c.args.self.now.stage c.in-Begun.revision s c.in-Begun.is h)).stands.here.block

pub returns-in-Born : goal.returns-in-Born
returns-in-Born t c = λ g s h.
    ap (λ z. z.block) c.deref-in-Born.ensures
    ∙ sym (ap (λ (x : State _). x.block) (born_as g c.args.self.now.stage c.in-Born.beginning s c.in-Born.is h).is)
