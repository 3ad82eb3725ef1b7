-- Answers of trace_of: the parts of the end of a run in post-order are its trace, and an end in Twice has none.
use Rattle.std.proofs.Common.{Some, ◌∙◌, subst, sym}
use Rattle.rev_syntax.specs.View.{program as whole}
use Rattle.revision_machine.specs.States.{global_of}
use Rattle.revision_machine.specs.StepOutcomes.{IsEnd}
use Rattle.revision_calculus.specs.Calculus.{main, calculus}
use Rattle.plain_runner.specs.Views.{setting_of}
use Rattle.audit_rules.specs.Traced.{HasTrace}
use Rattle.plain_runner.proofs.Making.{trace_made, none_made}
use Rattle.plain_runner.proofs.traces.trace_of.Goals as goal

pub returns : goal.returns
returns c =
    let s = setting_of c.in_ok-language.language in
    let qs = c.put_in_order.new.parts.items in
    let end = subst (λ g. IsEnd (calculus s) (main s c.args.fuel) (global_of g)) c.in-Live.is c.in_ok-run.ensures in
    subst (λ ps.
    HasTrace
    (record { program = whole c.args.typed.now.expanded.program; inputs = c.args.input.now; share = c.args.share })
    c.args.fuel (Some (record { parts = ps })))
    (sym c.from_vec.ensures)
    (trace_made s _ c.args.fuel c.deref.result.now c.in-Live.revisions.list.items c.in_ok-parts-in-Live.parts.items qs
    c.in_ok-language.ensures (c.deref.ensures.value ∙ c.in_ok-places.ensures) c.in-Live.revisions.distinct
    c.in_ok-parts-in-Live.ensures c.put_in_order.ensures.moved c.put_in_order.ensures.sorted end)

pub returns-in-Twice : goal.returns-in-Twice
returns-in-Twice c =
    let s = setting_of c.in_ok-language.language in
    none_made s _ c.args.fuel c.in_ok-language.ensures
    (subst (λ g. IsEnd (calculus s) (main s c.args.fuel) (global_of g)) c.in-Twice.is c.in_ok-run.ensures)
