-- Answers of trace_law: its three clauses, on texts with a trace behind them, are lemmas.
use Rattle.rev_top.proofs.TextLaws.{audits_own, has_form, none_begins}
use Rattle.rev_top.proofs.law.trace_law.Goals as goal

pub returns-clause-none_begins : goal.returns-clause-none_begins
returns-clause-none_begins c = none_begins

pub returns-clause-form : goal.returns-clause-form
returns-clause-form c = has_form

pub returns-clause-own_trace : goal.returns-clause-own_trace
returns-clause-own_trace c = audits_own
