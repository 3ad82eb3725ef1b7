-- Answers of statuses: its one clause, which tells why an answer has its status, is a lemma.
use Rattle.rev_top.proofs.WhyStatus.{status_law}
use Rattle.rev_top.proofs.law.statuses.Goals as goal

pub returns : goal.returns
returns c = status_law
