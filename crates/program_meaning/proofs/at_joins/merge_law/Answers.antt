-- Answers of merge_law: one lemma leads from a location of the code to the merge that the program declares for it.
use Rattle.program_meaning.proofs.EachHandle.{code_has_the_merges}
use Rattle.program_meaning.proofs.at_joins.merge_law.Goals as goal

pub returns : goal.returns
returns g c = λ p well run is l k at. code_has_the_merges p well run is l k at
