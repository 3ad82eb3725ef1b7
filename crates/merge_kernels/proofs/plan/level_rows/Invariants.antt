-- Loops of level_rows: what is told so far of rows is so, and the last one told of goes before the rest.
use Rattle.std.proofs.Common.{◌≡◌, ◌≤◌, ◌<◌, ◌*◌, ◌-◌, length}
use Rattle.merge_kernels.specs.Plans.{AreLevel, AreLike}
use Rattle.merge_kernels.proofs.plan.level_rows.Given as goal

abbrev pub invariant-loop-k : goal.invariant-loop-k
invariant-loop-k l = (length l.rows ≡ 64) × AreLevel l.rows l.choices × (l.behind ≤ 64 * l.k)
    × (0 < l.behind → AreLike l.choices (64 * (l.count - l.k)) l.behind)
