-- Answers of starts: main holds no handle at the start, so it is the same by paths and by number.
use Rattle.code_machine.proofs.Numbering.{first_none, first_numbered}
use Rattle.code_machine_laws.specs.Run.{run_of}
use Rattle.code_machine_laws.proofs.theory.starts.Goals as goal

pub returns : goal.returns
returns c v n m fuel = record {
  none = first_none (run_of v) n m.body fuel;
  related = λ t i. first_numbered (run_of v) n m.body fuel t;
}
