-- Answers of worked_reads: the reads of each small procedure compute to those stated; another input disagrees.
use Rattle.std.proofs.Common.{refl}
use Rattle.code_machine_laws.proofs.Apart.{apart}
use Rattle.code_machine_laws.proofs.reads.worked_reads.Goals as goal

pub returns : goal.returns
returns c = record {
  alone = refl;
  once = refl;
  range = (refl, refl);
  inputs = ((refl, tt), λ h. apart h.0);
}
