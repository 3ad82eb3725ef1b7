-- Answers of program_trace_law: a finished world of the code and an end of the program have the same traces.
use Rattle.code_traces.proofs.Tracing.{of_program}
use Rattle.code_traces.proofs.program_trace_law.Goals as goal

pub returns : goal.returns
returns c = of_program
