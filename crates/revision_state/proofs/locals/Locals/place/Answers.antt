-- Answers of Locals::place: the table has for the number of a name the place of its first local.
use Rattle.std.proofs.Common.{◌∙◌, sym, ap, arith, position}
use Rattle.std.proofs.lemmas.Option.{get_or_from_slice_get, slice_get_within}
use Rattle.name_tables.specs.Names.{same}
use Rattle.name_tables.specs.Table.{find}
use Rattle.revision_state.specs.LocalCodes.{Bound}
use Rattle.revision_state.specs.declared.body_names.BodyNames.{BodyNames}
use Rattle.revision_state.proofs.locals.Locals.place.Goals as goal

pub index-requires : goal.index-requires
index-requires c =
    let name = c.args.name.now in
    let number =
    ap (λ (b : BodyNames). find name b.numbers) (sym c.deref.ensures) ∙ sym c.number.ensures ∙ c.in-Some.is in
    let lt = slice_get_within c.self.inside.places.items c.in-Some.number _
    (c.self.invariant.0 name c.in-Some.number number) in
    let e = c.self.inside.places.ok.0 in
    omega arith

pub returns-in-Some : goal.returns-in-Some
returns-in-Some c =
    let name = c.args.name.now in
    let number =
    ap (λ (b : BodyNames). find name b.numbers) (sym c.deref.ensures) ∙ sym c.number.ensures ∙ c.in-Some.is in
    c.index.ensures
    ∙ get_or_from_slice_get c.self.inside.places.items c.in-Some.number _ c.index.result.now
    (c.self.invariant.0 name c.in-Some.number number)
    ∙ ap (position (λ (e : Bound). same name e.0)) c.self.view_is
