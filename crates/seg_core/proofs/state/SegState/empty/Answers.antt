-- Answers of SegState::empty: free segments without references make the empty core, in which all is counted.
use Rattle.std.proofs.Common.{ℕ, suc, length, sym, subst}
use Rattle.seg_core.specs.Core.{Counted}
use Rattle.seg_core.specs.Shape.{core_in}
use Rattle.seg_core.proofs.Frees.{empty_counted}
use Rattle.seg_core.proofs.Holds.{of_counted, starts}
use Rattle.seg_core.proofs.state.SegState.empty.Goals as goal

pub returns-clause-core : goal.returns-clause-core
returns-clause-core c = starts c.in_ok-free_segments.field-0.items
    c.in_ok-no_references.field-0.items (length c.args.initial.now) c.args.segments
    c.in_ok-free_segments.ensures.free c.in_ok-no_references.ensures.none

pub invariant_of-result : goal.invariant_of-result
invariant_of-result c = let items = c.in_ok-free_segments.field-0.items in
    let holders = c.in_ok-no_references.field-0.items in let n : ℕ = length c.args.initial.now in
    record {
      counted = of_counted (core_in items holders n)
          (subst Counted
          (sym (starts items holders n c.args.segments c.in_ok-free_segments.ensures.free
          c.in_ok-no_references.ensures.none)) (empty_counted (suc c.args.segments) 65536 n));
    }
