-- Answers of KernelPlan::level_from: what is left of those that are told of the row is a part of them.
use Rattle.std.proofs.Common.{rules, ◌≡◌, ◌*◌, ◌/◌, length, arith}
use Rattle.std.proofs.lemmas.Option.{slice_get-get_or}
use Rattle.merge_kernels.proofs.LevelRows.{part_alike}
use Rattle.merge_kernels.proofs.plan.KernelPlan.level_from.Goals as goal

pub returns : goal.returns
returns g c = λ some.
    let first = c.args.first in
    let level = c.args.self.now.level in
    let many : length level ≡ 64 = search rules in
    part_alike c.args.self.now.choices.items (64 * (first / 64)) _ first _
    (c.args.self.now.levels (first / 64) _ (slice_get-get_or level (first / 64) 0 (omega (arith, many)))
    (omega (arith, some)))
    (omega arith) (omega (arith, some)) some
