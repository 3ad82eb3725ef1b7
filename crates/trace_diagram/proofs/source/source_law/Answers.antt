-- Answers of source_law: its one clause, that a source divides in one way, is a lemma.
use Rattle.trace_diagram.proofs.Dividing.{sources_divide_once}
use Rattle.trace_diagram.proofs.source.source_law.Goals as goal

pub returns : goal.returns
returns c = sources_divide_once
