-- Answers of line_law: one lemma says that the tokens of a program have no line that begins a trace.
use Rattle.program_texts.proofs.Lines.{no_trace_line}
use Rattle.program_texts.proofs.line_law.Goals as goal

pub returns : goal.returns
returns c = no_trace_line
