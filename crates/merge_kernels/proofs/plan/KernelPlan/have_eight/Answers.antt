-- Answers of KernelPlan::have_eight: what the eight have decides on the row, where eight locations are left.
use Rattle.std.proofs.Common.{◌∙◌, ap, sym, length, take, drop, arith}
use Rattle.merge_kernels.specs.Plans.{have}
use Rattle.merge_kernels.proofs.RowChoices.{short_is, by_all}
use Rattle.merge_kernels.proofs.plan.KernelPlan.have_eight.Goals as goal

pub returns-then-choices-at : goal.returns-then-choices-at
returns-then-choices-at g c =
    let few = c.if-choices-at.true in let e = ap length c.as_slice-choices.ensures.value in
    sym (short_is c.args.self.now.choices.items c.args.first (omega (arith, few, e)))

pub returns : goal.returns
returns g c =
    let many = c.if-choices-at.false in let e = ap length c.as_slice-choices.ensures.value in
    by_all c.args.self.now.choices.items c.args.first c.args.n c.all_have.result (omega (arith, many, e)) c.requires
    (c.all_have.ensures
    ∙ ap (have c.args.n)
    (c.eight_choices.ensures ∙ ap (λ xs. take 8 (drop c.args.first xs)) c.as_slice-choices.ensures.value))
