-- Answers of leg_read_law: the reads of a leg are those of the steps to its event, with those of the instruction there.
use Rattle.code_machine_laws.proofs.LegReads.{leg_reads_of_steps}
use Rattle.code_machine_laws.proofs.reads.leg_read_law.Goals as goal

pub returns : goal.returns
returns g c = λ h ok d event l. leg_reads_of_steps h ok d event l
