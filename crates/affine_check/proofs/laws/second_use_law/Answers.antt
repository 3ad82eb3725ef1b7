-- Answers of second_use_law: a well-typed program keeps the rules on places, so the second use means a handle too.
use Rattle.revision_calculus.proofs.FunKinds.{rules_kept}
use Rattle.affine_check.proofs.Meaning.{uses_mean}
use Rattle.affine_check.proofs.laws.second_use_law.Goals as goal

pub returns : goal.returns
returns c = λ p well. uses_mean p (rules_kept p well)
