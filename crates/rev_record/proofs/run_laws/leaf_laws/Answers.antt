-- Answers of leaf_laws: one lemma on a leg that listed nothing, and one on an end that is taken over.
use Rattle.rev_record.proofs.Leaves.{leaves_found, adopted_is_leaf}
use Rattle.rev_record.proofs.run_laws.leaf_laws.Goals as goal

pub returns : goal.returns
returns c = record { found = leaves_found; adopted = adopted_is_leaf }
