-- Answers of division_laws: two lemmas, that the quotient truncates, and that it fails for nothing else.
use Rattle.rev_num.proofs.Division.{fails_only_there, truncates}
use Rattle.rev_num.proofs.laws.division_laws.Goals as goal

pub returns-clause-truncates : goal.returns-clause-truncates
returns-clause-truncates c = truncates

pub returns-clause-fails : goal.returns-clause-fails
returns-clause-fails c = fails_only_there
