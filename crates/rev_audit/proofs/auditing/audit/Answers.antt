-- Answers of audit: the stated parts are those of the trace, so their order and the verdict are the trace's.
use Rattle.std.proofs.Common.{◌≡◌, ◌∙◌, IfOk, subst, sym}
use Rattle.rev_syntax.specs.View.{program as whole}
use Rattle.trace_diagram.specs.declared.diagram.Trace.{Trace}
use Rattle.audit_rules.specs.Traces.{InPostOrder}
use Rattle.audit_rules.specs.Verdicts.{Audits}
use Rattle.audit_rules.proofs.Verdicts.{in_post_order}
use Rattle.rev_audit.proofs.auditing.audit.Goals as goal

pub first_difference-requires-clause-order : goal.first_difference-requires-clause-order
first_difference-requires-clause-order c =
    subst InPostOrder (sym (c.in_ok-stated.ensures.parts ∙ c.as_slice.ensures))
    (in_post_order c.args.trace.now.parts c.requires.form.order)

pub verdict-requires-clause-order : goal.verdict-requires-clause-order
verdict-requires-clause-order c =
    subst InPostOrder (sym (c.in_ok-stated.ensures.parts ∙ c.as_slice.ensures))
    (in_post_order c.args.trace.now.parts c.requires.form.order)

pub returns : goal.returns
returns c =
    let t = c.in_ok-stated.stated in
    let parts = c.in_ok-stated.ensures.parts ∙ c.as_slice.ensures in
    let whole_trace : record { parts = t.parts.now } ≡ c.args.trace.now = λ i. record { parts = parts i } in
    subst (λ (x : Trace).
    IfOk c.verdict.result (Audits
    (record { program = whole c.args.typed.now.expanded.program; inputs = c.args.input.now; share = c.args.share })
    c.args.fuel x))
    whole_trace
    (subst (λ f.
    IfOk c.verdict.result (Audits
    (record { program = whole c.args.typed.now.expanded.program; inputs = c.args.input.now; share = c.args.share }) f
    (record { parts = t.parts.now })))
    c.in_ok-stated.ensures.fuel
    (subst (λ s. IfOk c.verdict.result (Audits s t.fuel (record { parts = t.parts.now })))
    c.in_ok-stated.ensures.setting c.verdict.ensures))
