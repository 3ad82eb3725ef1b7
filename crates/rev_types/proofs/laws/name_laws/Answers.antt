-- Answers of name_laws: its one clause, that the first declaration of a name counts, is a lemma.
use Rattle.rev_types.proofs.Namings.{first_counts}
use Rattle.rev_types.proofs.laws.name_laws.Goals as goal

pub returns : goal.returns
returns c = first_counts
