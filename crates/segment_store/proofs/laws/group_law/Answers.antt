-- Answers of group_law: its one clause, that tables of one group are the same, is a lemma.
use Rattle.segment_store.proofs.Groups.{same_group}
use Rattle.segment_store.proofs.laws.group_law.Goals as goal

pub returns : goal.returns
returns c = same_group
