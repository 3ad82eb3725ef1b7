-- Answers of read_laws: what an instruction comes to hangs on its reads alone, and so with a row of them.
use Rattle.code_machine_laws.proofs.Moving.{step_same, reach_same}
use Rattle.code_machine_laws.proofs.OwnReads.{own_reads_agree}
use Rattle.code_machine_laws.proofs.reads.read_laws.Goals as goal

pub returns-clause-step : goal.returns-clause-step
returns-clause-step g c = λ s d ys inputs share h. step_same s ys inputs share d h

pub returns-clause-reach : goal.returns-clause-reach
returns-clause-reach g c = λ s k d ys inputs share h. reach_same s ys inputs share k d h

pub returns-clause-own : goal.returns-clause-own
returns-clause-own g c = λ s k d. own_reads_agree s k d
