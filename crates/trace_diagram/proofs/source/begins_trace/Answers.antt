-- Answers of begins_trace: the byte behind the words of a first line decides whether they are the whole line.
use Rattle.trace_diagram.specs.Traces.{first_line}
use Rattle.trace_diagram.proofs.Spelling.{stripped}
use Rattle.std.specs.Prelude.{Some}
use Rattle.trace_diagram.proofs.Dividing.{begins_line}
use Rattle.trace_diagram.proofs.source.begins_trace.Goals as goal

pub returns-in-Some-first : goal.returns-in-Some-first
returns-in-Some-first c =
    begins_line c.args.bytes.now c.in-Some.rest.now c.in-Some-first.byte.now
    (stripped (Some c.in-Some.rest) (λ x. x.now) c.args.bytes.now first_line c.in-Some.ensures.cases)
    c.in-Some-first.ensures.value
