-- Answers of KernelPlan::is_one_choice: eight that are alike have the choice of the first of them.
use Rattle.std.proofs.Common.{◌≤◌, arith}
use Rattle.merge_kernels.proofs.LevelRows.{like_row, part_alike}
use Rattle.merge_kernels.proofs.plan.KernelPlan.is_one_choice.Goals as goal

pub returns-then-level_from-ge8 : goal.returns-then-level_from-ge8
returns-then-level_from-ge8 g c =
    let many = c.level_from.result in
    let enough : 8 ≤ many = omega (arith, c.if-level_from-ge8.true) in
    like_row c.args.self.now.choices.items c.args.first c.args.n c.requires
    (part_alike c.args.self.now.choices.items c.args.first many c.args.first 8
    (c.level_from.ensures (omega (arith, enough))) (omega arith)
    (omega (arith, enough)) (omega arith))
