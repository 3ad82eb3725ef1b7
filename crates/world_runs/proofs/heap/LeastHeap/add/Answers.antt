-- Answers of LeastHeap::add: the heap has each number's distance to the greatest, so one distance more is one number.
use Rattle.std.proofs.Common.{◌-◌, ◌∷◌, refl}
use Rattle.std.specs.BinaryHeap.{heap_items}
use Rattle.world_runs.specs.Heap.{above}
use Rattle.world_runs.proofs.Heaps.{has_first, has_later, has_permuted, one_more}
use Rattle.world_runs.proofs.heap.LeastHeap.add.Goals as goal

pub returns-clause-here : goal.returns-clause-here
returns-clause-here c =
    has_permuted ((4294967295 - c.args.number) ∷ heap_items c.args.self.now.above) (heap_items c.push.new.self)
    (above c.args.number) c.in_ok-push.ensures.permutation
    (has_first (4294967295 - c.args.number) (heap_items c.args.self.now.above) (above c.args.number) refl)

pub returns-clause-kept : goal.returns-clause-kept
returns-clause-kept c = λ n h.
    has_permuted ((4294967295 - c.args.number) ∷ heap_items c.args.self.now.above) (heap_items c.push.new.self)
    (above n) c.in_ok-push.ensures.permutation
    (has_later (4294967295 - c.args.number) (heap_items c.args.self.now.above) (above n) h)

pub returns-clause-exact : goal.returns-clause-exact
returns-clause-exact c =
    one_more c.args.number (heap_items c.args.self.now.above) (heap_items c.push.new.self) c.ranges.number.fits
    c.in_ok-push.ensures.permutation
