-- Answers of lay_out: one number more without a round.
use Rattle.std.proofs.Common.{length, None, ap, ◌∙◌, arith}
use Rattle.hub_core.proofs.Lists.{many_more}
use Rattle.hub_core.specs.Woven.{rounds_at}
use Rattle.hub_core.proofs.Weaves.{none_more}
use Rattle.hub_core.proofs.closing.lay_out.Goals as goal

pub loop-preserved : goal.loop-preserved
loop-preserved c =
    let i = c.loop.invariant in
    let items = c.append.ensures.items in
    let many = ap length items ∙ many_more c.loop.rounds.items None in
    let a = i.0 in
    let b = i.1 in
    let e = i.2 in
    let len = c.append.ensures.len in
    let cap = c.append.ensures.capacity in (
      omega arith,
      omega arith,
      omega arith,
      (λ n. ap (λ l. rounds_at l n) items ∙ (none_more c.loop.rounds.items n ∙ i.3 n)),
    )
