-- Answers of read_trace: the first line and head begin the draft, or the first fault is where one is wrong.
use Rattle.std.proofs.Common.{◌∙◌, sym, ap, subst}
use Rattle.trace_diagram.specs.Drafts.{HasRead}
use Rattle.trace_diagram.proofs.Partials.{begun}
use Rattle.trace_diagram.proofs.Reading.{has_head, no_head, no_title, wrong_head}
use Rattle.trace_diagram.proofs.reader.read_trace.Goals as goal

pub returns-in_default-clause-err : goal.returns-in_default-clause-err
returns-in_default-clause-err c = no_title _ c.in_default.ensures

pub returns-in_default-cut-clause-err : goal.returns-in_default-cut-clause-err
returns-in_default-cut-clause-err c = no_head _ _ c.in-Some.ensures c.in_default-cut.ensures

pub returns-in_default-2-clause-err : goal.returns-in_default-2-clause-err
returns-in_default-2-clause-err c =
    let none = rw c.in_default-2.is at c.in_ok-path.ensures in
    wrong_head _ _ _ _ c.in-Some.ensures c.in-Some-cut.ensures none

pub read_parts-requires : goal.read_parts-requires
read_parts-requires c =
    let head = rw c.in-Some-2.is at c.in_ok-path.ensures in
    let is = c.begin.ensures ∙ ap (λ ps. begun ps c.in-Some-2.path) c.new.ensures.items in
    subst (λ p. HasRead c.args.bytes.now p c.in-Some-cut.more.now) (sym is)
    (has_head _ _ _ _ c.in-Some-2.path c.in-Some.ensures c.in-Some-cut.ensures head.0 head.1)
