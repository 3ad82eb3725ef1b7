-- Answers of LeastHeap::take: the greatest distance is on top and stands for the least number, and the others stay.
use Rattle.std.specs.BinaryHeap.{heap_items}
use Rattle.world_runs.proofs.Heaps.{least_first, one_less, taken_or_left}
use Rattle.world_runs.proofs.heap.LeastHeap.take.Goals as goal

pub returns-in-Some-clause-least : goal.returns-in-Some-clause-least
returns-in-Some-clause-least c = λ n less h.
    least_first c.in-Some.above (heap_items c.args.self.now.above) n
    (c.in-Some.ensures.heap_order c.args.self.now.order).1 less h

pub returns-in-Some-clause-kept : goal.returns-in-Some-clause-kept
returns-in-Some-clause-kept c = λ n less h.
    taken_or_left c.in-Some.above (heap_items c.args.self.now.above) (heap_items c.pop.new.self) n
    c.in-Some.ensures.permutation less h

pub returns-in-Some-clause-exact : goal.returns-in-Some-clause-exact
returns-in-Some-clause-exact c =
    one_less c.in-Some.above (heap_items c.args.self.now.above) (heap_items c.pop.new.self)
    c.in-Some.ensures.permutation
