-- Answers of join_rule: two lemmas, locations compose as the calculus joins, and words compose as their values.
use Rattle.program_meaning.proofs.RuleComposing.{composes, encodes}
use Rattle.program_meaning.proofs.rule.join_rule.Goals as goal

pub returns-clause-composes : goal.returns-clause-composes
returns-clause-composes c = composes

pub returns-clause-encodes : goal.returns-clause-encodes
returns-clause-encodes c = encodes
