-- Answers of rule_laws: the rules of a setting keep the laws' conditions, and the limits are sums of fuel and forks.
use Rattle.std.proofs.Common.{arith}
use Rattle.determinacy.specs.Meets.{keeps, is_first, is_small}
use Rattle.determinacy.proofs.laws.rule_laws.Goals as goal

pub returns : goal.returns
returns c = record {
  keeps = keeps;
  first = is_first;
  small = is_small;
  both = λ s l m room. omega arith;
}
