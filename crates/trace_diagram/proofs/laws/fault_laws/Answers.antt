-- Answers of fault_laws: two lemmas, that no trace text has a first fault, and that no bytes have two.
use Rattle.trace_diagram.proofs.Faults.{fault_is_no_text, one_fault}
use Rattle.trace_diagram.proofs.laws.fault_laws.Goals as goal

pub returns-clause-no_text : goal.returns-clause-no_text
returns-clause-no_text c = fault_is_no_text

pub returns-clause-unique : goal.returns-clause-unique
returns-clause-unique c = one_fault
