-- Answers of verdict_laws: the laws of audits on parts, read for a trace with its verdict as one value.
use Rattle.audit_rules.proofs.Verdicts.{each_has_one, trace_is_yes, yes_is_true}
use Rattle.audit_rules.proofs.laws.verdict_laws.Goals as goal

pub returns-clause-yes : goal.returns-clause-yes
returns-clause-yes c = yes_is_true

pub returns-clause-trace : goal.returns-clause-trace
returns-clause-trace c = trace_is_yes

pub returns-clause-one : goal.returns-clause-one
returns-clause-one c = each_has_one
