-- Answers of Locals::push: the table notes a place only for a name that had none, so places stay the first ones.
use Rattle.std.proofs.Common.{◌≡◌, ◌∙◌, ◌++◌, ◌∷◌, [], length, sym, ap, subst}
use Rattle.name_tables.specs.Table.{find}
use Rattle.revision_state.specs.LocalCodes.{Bound}
use Rattle.revision_state.specs.LocalPlaces.{AreKnown, IsPlaced, noted}
use Rattle.revision_state.specs.declared.body_names.BodyNames.{BodyNames}
use Rattle.revision_state.proofs.LocalPlaces.{known_push, number_within, placed_push}
use Rattle.revision_state.proofs.locals.Locals.push.Goals as goal

pub note-requires : goal.note-requires
note-requires c =
    let name = c.args.name.now in
    number_within c.self.inside.names.value.numbers c.self.inside.places.items c.self.inside.bindings.items
    c.self.invariant.0 name c.number-number.result
    (c.number-number.ensures ∙ ap (λ (b : BodyNames). find name b.numbers) c.deref.ensures)

pub invariant_of-self-2 : goal.invariant_of-self-2
invariant_of-self-2 c =
    let name = c.args.name.now in
    let numbers = c.self.inside.names.value.numbers in
    let places = c.self.inside.places.items in
    let es = c.self.inside.bindings.items in
    let number = c.number-number.ensures ∙ ap (λ (b : BodyNames). find name b.numbers) c.deref.ensures in
    let last : c.len-at.result ≡ length es = c.len-at.ensures ∙ c.self.inside.bindings.ok.0 in
    let whole : c.push.new.self.items ≡ es ++ (name, c.args.value) ∷ [] =
    c.in_ok-push.ensures.items ∙ ap (λ (t : Bound). es ++ t ∷ []) c.new.ensures in
    let now =
    c.note.ensures ∙ ap (λ o. noted places o c.len-at.result) number
    ∙ ap (λ n. noted places (find name numbers) n) last in
    let placed = subst (λ t. IsPlaced numbers t (es ++ (name, c.args.value) ∷ [])) (sym now)
    (placed_push numbers places es name c.args.value c.self.inside.names.value.apart c.self.invariant.0) in
    let known = subst (λ b. AreKnown numbers b (es ++ (name, c.args.value) ∷ [])) (sym c.has_others-self-inside.ensures)
    (known_push numbers places es name c.args.value c.self.inside.others c.number-number.result number
    c.self.invariant.1) in
    subst (λ t. IsPlaced numbers c.note.new.places.items t × AreKnown numbers c.has_others-self-inside.result t)
    (sym whole) (placed, known)
