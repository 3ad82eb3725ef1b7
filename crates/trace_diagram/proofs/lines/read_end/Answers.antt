-- Answers of read_end: an end that is not done is a trap by a plain cause or by a merge, and says where it was.
use Rattle.std.proofs.lemmas.Result.{IfOk-weaker}
use Rattle.trace_diagram.proofs.EndForms.{merge_end, plain_end}
use Rattle.trace_diagram.proofs.lines.read_end.Goals as goal

pub returns-in-Some-read_cause : goal.returns-in-Some-read_cause
returns-in-Some-read_cause c =
    IfOk-weaker c.read_trap.result _ _
    (λ o. plain_end _ _ _ _ o c.in-Some.ensures c.if-are.ensures c.in-Some-read_cause.ensures) c.read_trap.ensures

pub returns-in-Some-read_merge : goal.returns-in-Some-read_merge
returns-in-Some-read_merge c =
    IfOk-weaker c.read_trap-in-Some-read_merge.result _ _
    (λ o. merge_end o c.in-Some.ensures c.if-are.ensures c.in-Some-read_merge.ensures)
    c.read_trap-in-Some-read_merge.ensures
