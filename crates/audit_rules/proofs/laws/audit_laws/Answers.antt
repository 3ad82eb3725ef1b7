-- Answers of audit_laws: the laws of audits by a map of parts are read for lists, where a part is found by its path.
use Rattle.audit_rules.proofs.FinalTraces.{end_has_trace}
use Rattle.audit_rules.proofs.OwnRuns.{own_runs_fit}
use Rattle.audit_rules.proofs.TracesAsParts.{each_is_computed, has_verdict, trace_has_yes, verdict_is_one, yes_tells}
use Rattle.audit_rules.proofs.laws.audit_laws.Goals as goal

pub returns-clause-yes : goal.returns-clause-yes
returns-clause-yes c = yes_tells

pub returns-clause-trace : goal.returns-clause-trace
returns-clause-trace c = trace_has_yes

pub returns-clause-computed : goal.returns-clause-computed
returns-clause-computed c = each_is_computed

pub returns-clause-listed : goal.returns-clause-listed
returns-clause-listed c = end_has_trace

pub returns-clause-verdict : goal.returns-clause-verdict
returns-clause-verdict c = has_verdict

pub returns-clause-one_verdict : goal.returns-clause-one_verdict
returns-clause-one_verdict c = verdict_is_one

pub returns-clause-own_runs : goal.returns-clause-own_runs
returns-clause-own_runs c = λ s fuel well. own_runs_fit s well fuel
