-- Answers of put_in_order: the comparison always answers by the order of paths, so the parts are in post-order.
use Rattle.std.proofs.Common.{rules, subst}
use Rattle.std.proofs.lemmas.Fn.{always_returns_same}
use Rattle.std.specs.List.Sorted.{IsSortedBy}
use Rattle.trace_parts.proofs.InOrder.{is_less, less_order, same_order}
use Rattle.trace_parts.proofs.order.put_in_order.Goals as goal

pub returns-clause-sorted : goal.returns-clause-sorted
returns-clause-sorted c =
    let up = c.sort_unstable_by.ensures.sorted is_less less_order
    (always_returns_same _ _ _ (λ a r f k. search rules)) in
    subst (λ lt. IsSortedBy lt c.sort_unstable_by.new.self.items) same_order up
