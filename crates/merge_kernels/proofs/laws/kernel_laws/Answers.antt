-- Answers of kernel_laws: its one clause, that a definition has the value of its merge, is a lemma.
use Rattle.merge_kernels.proofs.MergeTerms.{has_value}
use Rattle.merge_kernels.proofs.laws.kernel_laws.Goals as goal

pub returns : goal.returns
returns c = record { value = has_value }
