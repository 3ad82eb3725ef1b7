-- Answers of Runner::text: the runner stands for the state, so its bytes are the text of the state.
use Rattle.std.proofs.Common.{◌∙◌, sym, ap}
use Rattle.rev_code.specs.State.{State}
use Rattle.rev_vm.proofs.Born.{begun_as, born_as}
use Rattle.rev_vm.proofs.Boxes.{same_at}
use Rattle.rev_vm.proofs.runner.Runner.text.Goals as goal

pub returns-in-Begun : goal.returns-in-Begun
returns-in-Begun t c = λ g s h.
    c.as_slice.ensures.value
    ∙ sym (same_at (sym c.deref.ensures) g s
    (begun_as g c.args.self.now.stage c.in-Begun.revision s c.in-Begun.is h)).stands.text

pub returns-in-Born : goal.returns-in-Born
returns-in-Born t c = λ g s h.
    sym (ap (λ (x : State _). x.text)
    (born_as g c.args.self.now.stage c.in-Born.field-0 s c.in-Born.is h).is)
