-- Answers of read_cause: bytes that begin with none of the seven words have no plain cause.
use Rattle.trace_diagram.proofs.LineForms.{no_cause}
use Rattle.trace_diagram.proofs.lines.read_cause.Goals as goal

pub returns-in-None : goal.returns-in-None
returns-in-None c =
    no_cause c.args.bytes.now c.in_default.ensures c.in_default-behind.ensures c.in_default-behind-2.ensures
    c.in_default-behind-3.ensures c.in_default-behind-4.ensures c.in_default-behind-5.ensures c.in-None.ensures
