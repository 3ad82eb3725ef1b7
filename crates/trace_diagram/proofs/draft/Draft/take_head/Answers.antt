-- Answers of Draft::take_head: the head of a later path closes the part and begins the next, and no other line does.
use Rattle.std.proofs.Common.{◌∙◌, sym, subst}
use Rattle.trace_diagram.specs.Drafts.{IsLonger, partial_of}
use Rattle.trace_diagram.proofs.Partials.{head_extends, not_later}
use Rattle.trace_diagram.proofs.draft.Draft.take_head.Goals as goal

pub returns-then-not-after_in_post_order : goal.returns-then-not-after_in_post_order
returns-then-not-after_in_post_order c = λ next h.
    let head = rw c.in-Some.is at c.in_ok-path.ensures in
    not_later c.args.self.path c.in-Some.path c.args.line.now next head.0 head.1
    (sym c.after_in_post_order.ensures ∙ c.if-not-after_in_post_order.true) h

pub returns-in-Some-2 : goal.returns-in-Some-2
returns-in-Some-2 c =
    let head = rw c.in-Some.is at c.in_ok-path.ensures in
    let closed = rw c.in-Some-2.is at c.in_ok-parts.ensures in
    subst (IsLonger c.args.line.now (partial_of c.args.self)) (sym c.begin.ensures)
    (head_extends (partial_of c.args.self) c.in-Some-2.parts.items c.in-Some.path c.args.line.now c.requires.form closed
    head.0 head.1 (sym c.after_in_post_order.ensures ∙ c.if-not-after_in_post_order.false))
