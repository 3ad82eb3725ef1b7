-- Answers of level_rows: at first no row is told of, and then one row more.
use Rattle.std.proofs.Common.{◌≡◌, ◌∙◌, ◌-◌, ◌+◌, ◌*◌, refl, subst, arith}
use Rattle.std.proofs.lemmas.List.{length-set}
use Rattle.merge_kernels.specs.Plans.{AreLike}
use Rattle.merge_kernels.proofs.LevelRows.{level_first, level_more}
use Rattle.merge_kernels.proofs.plan.level_rows.Goals as goal

pub loop-k-init : goal.loop-k-init
loop-k-init c = (refl, level_first 64 c.args.choices.now, omega arith, λ some. absurd (omega (arith, some)))

pub loop-k-preserved : goal.loop-k-preserved
loop-k-preserved c =
    let row = c.min-count.result - 1 - c.loop-k.k in
    let here : row ≡ c.min-count.result - (c.loop-k.k + 1) = omega arith in (
      length-set c.loop-k.rows row c.level_with-behind.result ∙ c.loop-k.invariant.0,
      level_more c.loop-k.rows c.args.choices.now row c.level_with-behind.result c.loop-k.invariant.1
          c.level_with-behind.ensures.level,
      omega (arith, c.level_with-behind.ensures.few, c.loop-k.invariant.2),
      λ some.
          subst (λ r. AreLike c.args.choices.now (64 * r) c.level_with-behind.result) here
          (c.level_with-behind.ensures.level some),
    )

pub level_with-behind-requires-clause-behind : goal.level_with-behind-requires-clause-behind
level_with-behind-requires-clause-behind c = λ some.
    let next : 64 * (c.min-count.result - c.loop-k.k) ≡ 64 * (c.min-count.result - 1 - c.loop-k.k) + 64 = omega arith in
    subst (λ n. AreLike c.args.choices.now n c.loop-k.behind) next (c.loop-k.invariant.3 some)
