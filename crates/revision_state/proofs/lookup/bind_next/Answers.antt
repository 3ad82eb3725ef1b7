-- Answers of bind_next: the next parameter stands behind as many as there are locals, and past the last is none.
use Rattle.std.proofs.Common.{◌≡◌, ◌∙◌, ◌++◌, ◌∷◌, [], length, get_or, sym, ap, arith}
use Rattle.name_tables.specs.Names.{Name}
use Rattle.revision_state.proofs.Callees.{next_bound, none_next}
use Rattle.revision_state.proofs.lookup.bind_next.Goals as goal

pub returns-in_ok-push : goal.returns-in_ok-push
returns-in_ok-push c =
    let es = c.args.locals.now in
    let ps = c.args.params.now in
    let n : c.len-next.result ≡ length es = c.len-next.ensures in
    let q = c.index-params-next.result in
    let bound = next_bound ps es c.args.value q (omega (arith, c.if-next-params.true)) in
    c.in_ok-push.ensures
    ∙ ap (λ (w : Name). es ++ (w, c.args.value) ∷ [])
    (c.as_slice-name.ensures.value ∙ ap (λ i. (get_or ps i q).name.text.items) n)
    ∙ sym bound

pub returns-else-next-params : goal.returns-else-next-params
returns-else-next-params c =
    sym (none_next c.args.params.now c.args.locals.now c.args.value (omega (arith, c.len-next.ensures)))
