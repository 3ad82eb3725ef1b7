-- Answers of one_finding: its one clause, that exactly one of the faults or the acceptance holds, is a lemma.
use Rattle.rev_top.proofs.Findings.{front_end}
use Rattle.rev_top.proofs.law.one_finding.Goals as goal

pub returns : goal.returns
returns c = front_end
