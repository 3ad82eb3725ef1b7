-- Answers of lengthen: one more empty list leaves what each number has, and the lengths grow by one.
use Rattle.std.proofs.Common.{rules, ◌≡◌, ◌++◌, [], ◌∷◌, None, length, ap, ◌∙◌, arith}
use Rattle.hub_core.specs.Chains.{chain_at}
use Rattle.hub_core.proofs.Lists.{many_more}
use Rattle.hub_core.proofs.Ways.{chain_more}
use Rattle.hub_core.proofs.queueing.lengthen.Goals as goal

pub loop-preserved : goal.loop-preserved
loop-preserved c =
    let items : c.push.new.self.items ≡ c.loop.waiters.items ++ None ∷ [] = search rules in
    let one = ap length items in
    let more = many_more c.loop.waiters.items None in
    let i = c.loop.invariant in
    let long = i.1 in
    let first = i.2 in
    ((λ m. ap (λ l. chain_at l m) items ∙ (chain_more c.loop.waiters.items m ∙ i.0 m)), omega arith, omega arith)
