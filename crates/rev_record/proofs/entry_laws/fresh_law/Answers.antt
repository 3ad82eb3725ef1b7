-- Answers of fresh_law: its clause, with what a fresh revision begins, is a lemma.
use Rattle.rev_record.proofs.Beginning.{fresh_begins}
use Rattle.rev_record.proofs.entry_laws.fresh_law.Goals as goal

pub returns : goal.returns
returns c = fresh_begins
