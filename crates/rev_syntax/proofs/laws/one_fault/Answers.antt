-- Answers of one_fault: two lemmas, that no text has two first faults, and that none has both tokens and a fault.
use Rattle.rev_syntax.proofs.Unique.{one-fault, no-fault}
use Rattle.rev_syntax.proofs.laws.one_fault.Goals as goal

pub returns-clause-same : goal.returns-clause-same
returns-clause-same c = one-fault

pub returns-clause-apart : goal.returns-clause-apart
returns-clause-apart c = no-fault
