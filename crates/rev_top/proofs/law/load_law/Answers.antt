-- Answers of load_law: two lemmas, that the text of load is accepted, and that its answer has the status of a run.
use Rattle.rev_top.proofs.TextLaws.{load_accepted, load_ends}
use Rattle.rev_top.proofs.law.load_law.Goals as goal

pub returns-clause-accepted : goal.returns-clause-accepted
returns-clause-accepted c = load_accepted

pub returns-clause-ends : goal.returns-clause-ends
returns-clause-ends c = load_ends
