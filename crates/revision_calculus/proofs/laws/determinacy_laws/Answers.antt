-- Answers of determinacy_laws: the calculus counts forks as a machine has to, and each clause is then a lemma.
use Rattle.revision_machine.proofs.Ends.{diamond_law, unique_end, twice_in_all, twice_final}
use Rattle.revision_calculus.specs.Calculus.{calculus, main}
use Rattle.revision_calculus.proofs.Meets.{counts}
use Rattle.revision_calculus.proofs.Outcomes.{one_outcome}
use Rattle.revision_calculus.proofs.laws.determinacy_laws.Goals as goal

pub returns : goal.returns
returns c = record {
  diamond = λ s fuel. diamond_law (calculus s) (main s fuel) (counts s);
  unique_end = λ s fuel. unique_end (calculus s) (main s fuel) (counts s);
  twice_in_all = λ s fuel. twice_in_all (calculus s) (main s fuel) (counts s);
  twice_is_final = λ s. twice_final (calculus s);
  one_outcome = one_outcome;
}
