-- Answers of add_all: a number of those so far was there before or is this one, which the heap has just taken in.
use Rattle.std.proofs.Common.{inl, inr, sym, subst, true≢false}
use Rattle.world_runs.specs.Heap.{Has}
use Rattle.world_runs.proofs.Queues.{has_more, has_all}
use Rattle.world_runs.proofs.queue.add_all.Goals as goal

pub loop-at-init : goal.loop-at-init
loop-at-init c = record { here = λ n h. absurd (true≢false (sym h)); kept = λ n h. h }

pub loop-at-preserved : goal.loop-at-preserved
loop-at-preserved c = record {
  here = λ n h. elim (has_more c.args.numbers.now c.loop-at.at n c.loop-at-test.true h) [
    | inl is ↦ subst (Has c.add.new.self) is c.in_ok-add.ensures.here
    | inr there ↦ c.in_ok-add.ensures.kept n (c.loop-at.invariant.here n there)
  ];
  kept = λ n h. c.in_ok-add.ensures.kept n (c.loop-at.invariant.kept n h);
}

pub returns-clause-here : goal.returns-clause-here
returns-clause-here c =
    λ n h. c.loop-at.invariant.here n (has_all c.args.numbers.now c.loop-at.at n c.loop-at-test.false h)

pub returns-clause-kept : goal.returns-clause-kept
returns-clause-kept c = c.loop-at.invariant.kept
