-- Loops of merges_for: all merges made so far are for this setting, and they are as many as the turns.
use Rattle.std.proofs.Common.{◌≡◌, length, map, All}
use Rattle.block_run.specs.Area.{count}
use Rattle.merge_kernels.specs.Terms.{definition}
use Rattle.rev_workers.specs.Hands.{AreMergesFor}
use Rattle.rev_workers.specs.Plans.{planned}
use Rattle.rev_workers.proofs.hands.merges_for.Given as goal

abbrev pub invariant-loop : goal.invariant-loop
invariant-loop g l =
    All (AreMergesFor (λ m. count m.inner.code.now.vars)
    (λ m. planned m.inner.code.now m.plan.now.choices.items (map (λ k. definition k.def) m.plan.now.kernels.now))
    l.fn.setting)
    l.list.items
    × (length l.list.items ≡ l.counter)
