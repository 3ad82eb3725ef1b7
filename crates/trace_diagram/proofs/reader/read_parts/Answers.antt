-- Answers of read_parts: a line that does not go on with the draft is the fault, or an end that is not whole.
use Rattle.std.proofs.Common.{◌∙◌, sym}
use Rattle.trace_diagram.specs.Drafts.{partial_of}
use Rattle.trace_diagram.proofs.Partials.{full_if}
use Rattle.trace_diagram.proofs.Reading.{has_more, wrong_end, wrong_line, wrong_rest}
use Rattle.trace_diagram.proofs.reader.read_parts.Goals as goal

pub returns-in_default-2-clause-err : goal.returns-in_default-2-clause-err
returns-in_default-2-clause-err c =
    let none = rw c.in_default-2.is at c.in_ok-longer.ensures in
    wrong_line c.args.bytes.now (partial_of c.loop-line.draft) c.loop-line.rest.now _ _ c.loop-line.invariant
    c.in-Some.ensures none

pub loop-line-preserved : goal.loop-line-preserved
loop-line-preserved c =
    let longer = rw c.in-Some-2.is at c.in_ok-longer.ensures in
    has_more c.args.bytes.now (partial_of c.loop-line.draft) (partial_of c.in-Some-2.longer) c.loop-line.rest.now _ _
    c.loop-line.invariant c.in-Some.ensures longer

pub returns-then-not-is_empty-clause-err : goal.returns-then-not-is_empty-clause-err
returns-then-not-is_empty-clause-err c =
    wrong_rest c.args.bytes.now (partial_of c.loop-line.draft) c.loop-line.rest.now c.loop-line.invariant
    c.in_default.ensures
    (full_if c.loop-line.rest.now (sym c.if-not-is_empty.true ∙ c.is_empty.ensures))

pub returns-in-None-clause-err : goal.returns-in-None-clause-err
returns-in-None-clause-err c =
    let none = rw c.in-None.is at c.in_ok-trace.ensures in
    wrong_end c.args.bytes.now (partial_of c.loop-line.draft) c.loop-line.rest.now c.loop-line.invariant
    c.in_default.ensures none
