-- Answers of step_laws: in each reached core all references are counted, and from that each clause is a lemma.
use Rattle.seg_core.proofs.Frees.{frees_at_last}
use Rattle.seg_core.proofs.Bases.{bases_keep}
use Rattle.seg_core.proofs.Reaches.{reached_counted}
use Rattle.seg_core.proofs.laws.step_laws.Goals as goal

pub returns-clause-counts : goal.returns-clause-counts
returns-clause-counts c = reached_counted

pub returns-clause-bases : goal.returns-clause-bases
returns-clause-bases c = λ k k' s g r. bases_keep k k' s g (reached_counted k r)

pub returns-clause-frees : goal.returns-clause-frees
returns-clause-frees c = λ k k' s r. frees_at_last k k' s (reached_counted k r)
