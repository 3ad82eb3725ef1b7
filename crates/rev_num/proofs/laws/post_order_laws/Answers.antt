-- Answers of post_order_laws: the tests are exact both ways, and the order and two rules on children are lemmas.
use Rattle.std.proofs.Common.{◌≡◌, subst, true}
use Rattle.rev_num.specs.Path.{same}
use Rattle.rev_num.proofs.PostOrder.{before-comes, child_before, comes-before, earlier_child_before, same-eq, same_refl, strict_total_order}
use Rattle.rev_num.proofs.laws.post_order_laws.Goals as goal

pub returns-clause-exact : goal.returns-clause-exact
returns-clause-exact c = λ p q. (
  (same-eq p q, λ is. subst (λ r. same p r ≡ true) is (same_refl p)),
  (before-comes p q, comes-before p q),
)

pub returns-clause-order : goal.returns-clause-order
returns-clause-order c = strict_total_order

pub returns-clause-children_first : goal.returns-clause-children_first
returns-clause-children_first c = child_before

pub returns-clause-children_in_order : goal.returns-clause-children_in_order
returns-clause-children_in_order c = earlier_child_before
