-- Answers of trace_law: the code of a program is accepted, and of accepted code the agreement of traces is a lemma.
use Rattle.program_meaning.proofs.Outcomes.{code_accepted}
use Rattle.code_traces.proofs.Worlds.{traces_agree}
use Rattle.code_traces.proofs.laws.trace_law.Goals as goal

pub returns : goal.returns
returns c = λ s well n m fuel. traces_agree s well (code_accepted s.program well) n m fuel
