-- `Runner::is_fresh`: as many meetings as the state has listed, and none before the first leg.
use Rattle.std.proofs.Common.{◌∙◌, length, ap, sym}
use Rattle.std.specs.Prelude.{◌==◌}
use Rattle.rev_code.specs.State.{State}
use Rattle.rev_vm.proofs.Beginnings.{listed_many}
use Rattle.rev_vm.proofs.Born.{begun_as, born_as}
use Rattle.rev_vm.proofs.Boxes.{same_at}
use Rattle.rev_vm.proofs.runner.Runner.is_fresh.Goals as goal

pub returns-in-Begun : goal.returns-in-Begun
returns-in-Begun t c = λ g s h.
    c.is_empty.ensures
    ∙ ap (λ n. n == 0) (ap length c.as_slice.ensures.value
    ∙ listed_many s.listed c.deref.result.now.run.meetings.items
    (same_at (sym c.deref.ensures) g s
    (begun_as g c.args.self.now.stage c.in-Begun.revision s c.in-Begun.is h)).stands.listed)

pub returns-in-Born : goal.returns-in-Born
returns-in-Born t c = λ g s h.
    sym (ap (λ (x : State _). length x.listed == 0)
    (born_as g c.args.self.now.stage c.in-Born.field-0 s c.in-Born.is h).is)
