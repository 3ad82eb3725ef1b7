-- Answers of Locals::set: a name with a place has its local changed, and one without is added at the end.
use Rattle.std.proofs.Common.{◌∙◌, sym, ap, set, position}
use Rattle.name_tables.specs.Names.{same}
use Rattle.revision_calculus.specs.Evaluation.{with_local}
use Rattle.revision_state.specs.LocalCodes.{Bound}
use Rattle.revision_state.proofs.Bindings.{changed, added}
use Rattle.revision_state.proofs.locals.Locals.set.Goals as goal

pub returns-in-Some : goal.returns-in-Some
returns-in-Some c =
    let es = c.self.inside.bindings.items in
    let at = ap (position (λ (e : Bound). same c.args.name.now e.0)) c.self.view_is ∙ sym c.in-Some.ensures in
    ap (set es c.in-Some.at) (c.change.ensures ∙ ap (λ (t : Bound). (t.0, c.args.value)) c.index_mut.ensures.value)
    ∙ changed c.args.name.now c.args.value es c.in-Some.at c.index_mut.result.now at
    ∙ ap (λ t. with_local t c.args.name.now c.args.value) c.self.view_is

pub returns-in_ok-push-in-None : goal.returns-in_ok-push-in-None
returns-in_ok-push-in-None c =
    c.in_ok-push-in-None.ensures ∙ sym (added c.args.name.now c.args.value c.args.self.now (sym c.in-None.ensures))
