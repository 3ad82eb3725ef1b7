-- Answers of leaf_law: its clause, that the machine tells of the entry of a leaf revision, is a lemma.
use Rattle.rev_record.proofs.Telling.{leaf_is_told}
use Rattle.rev_record.proofs.entry_laws.leaf_law.Goals as goal

pub returns : goal.returns
returns c = leaf_is_told
