-- Answers of enter_change: an unknown place, another kind or a taken slot refuses, and else the slot is written.
use Rattle.std.proofs.Common.{◌∙◌, ap, arith, refl, sym}
use Rattle.std.proofs.lemmas.Option.{slice_get_read}
use Rattle.revision_state.specs.Views.{given}
use Rattle.audit_rules.specs.Parts.{number_of, places}
use Rattle.stated_parts.proofs.Accepted.{accepted}
use Rattle.stated_parts.proofs.Telling.{enters_free, enters_other, enters_twice, enters_unknown, location_within, slot_within}
use Rattle.stated_parts.proofs.told.enter_change.Goals as goal

pub returns-in_default : goal.returns-in_default
returns-in_default c =
    let t = c.args.stated.now.setting in
    enters_unknown (given t) (accepted t) c.args.changes.now c.args.j c.index-changes-j.result c.requires.within
    c.index-changes-j.is c.args.slots.now.items
    (sym c.in_default.is ∙ c.number.ensures ∙ ap (number_of (places (given t))) c.as_slice.ensures)

pub bounds-locations-n : goal.bounds-locations-n
bounds-locations-n c =
    let t = c.args.stated.now.setting in
    location_within (given t) (accepted t) c.args.locations.now c.index-changes-j.result.place c.in-Some.number
    c.requires.kinds (sym c.in-Some.is ∙ c.number.ensures ∙ ap (number_of (places (given t))) c.as_slice.ensures)

pub returns-then-not-has_kind : goal.returns-then-not-has_kind
returns-then-not-has_kind c =
    let t = c.args.stated.now.setting in
    let n = sym c.in-Some.is ∙ c.number.ensures ∙ ap (number_of (places (given t))) c.as_slice.ensures in
    let less =
    location_within (given t) (accepted t) c.args.locations.now c.index-changes-j.result.place c.in-Some.number
    c.requires.kinds n in
    enters_other (given t) (accepted t) c.args.changes.now c.args.j c.index-changes-j.result c.requires.within
    c.index-changes-j.is c.args.slots.now.items c.args.locations.now c.in-Some.number c.index-locations-n.result
    c.requires.kinds n
    (slice_get_read c.args.locations.now _ c.in-Some.number c.index-locations-n.result refl less c.index-locations-n.is)
    (sym c.if-not-has_kind.true ∙ c.has_kind.ensures)

pub index-requires : goal.index-requires
index-requires c =
    let t = c.args.stated.now.setting in
    let h = slot_within (given t) (accepted t) c.args.slots.now.items _ c.index-changes-j.result.place c.in-Some.number
    c.requires.slots (sym c.in-Some.is ∙ c.number.ensures ∙ ap (number_of (places (given t))) c.as_slice.ensures) in
    let len = c.args.slots.now.ok.0 in
    omega (arith, h, len)

pub returns-then-is_some : goal.returns-then-is_some
returns-then-is_some c =
    let t = c.args.stated.now.setting in
    let n = sym c.in-Some.is ∙ c.number.ensures ∙ ap (number_of (places (given t))) c.as_slice.ensures in
    let less =
    slot_within (given t) (accepted t) c.args.slots.now.items _ c.index-changes-j.result.place c.in-Some.number
    c.requires.slots n in
    enters_twice (given t) (accepted t) c.args.changes.now c.args.j c.index-changes-j.result c.requires.within
    c.index-changes-j.is c.args.slots.now.items c.args.slots.now.items c.in-Some.number c.index.result.now
    c.requires.slots n
    (slice_get_read c.args.slots.now.items _ c.in-Some.number c.index.result.now refl less c.index.ensures)
    (sym c.is_some.ensures ∙ c.if-is_some.true)

pub index_mut-requires : goal.index_mut-requires
index_mut-requires c =
    let t = c.args.stated.now.setting in
    let h = slot_within (given t) (accepted t) c.args.slots.now.items _ c.index-changes-j.result.place c.in-Some.number
    c.requires.slots (sym c.in-Some.is ∙ c.number.ensures ∙ ap (number_of (places (given t))) c.as_slice.ensures) in
    let len = c.args.slots.now.ok.0 in
    omega (arith, h, len)

pub returns : goal.returns
returns c =
    let t = c.args.stated.now.setting in
    let n = sym c.in-Some.is ∙ c.number.ensures ∙ ap (number_of (places (given t))) c.as_slice.ensures in
    let place = c.index-changes-j.result.place in
    let near = location_within (given t) (accepted t) c.args.locations.now place c.in-Some.number c.requires.kinds n in
    let less = slot_within (given t) (accepted t) c.args.slots.now.items _ place c.in-Some.number c.requires.slots n in
    enters_free (given t) (accepted t) c.args.changes.now c.args.j c.index-changes-j.result c.requires.within
    c.index-changes-j.is c.args.slots.now.items _ c.args.locations.now c.in-Some.number c.index-locations-n.result
    c.index.result.now _ c.requires.slots c.requires.kinds n
    (slice_get_read c.args.locations.now _ c.in-Some.number c.index-locations-n.result refl near c.index-locations-n.is)
    (sym c.if-not-has_kind.false ∙ c.has_kind.ensures)
    (slice_get_read c.args.slots.now.items _ c.in-Some.number c.index.result.now refl less c.index.ensures)
    (sym c.is_some.ensures ∙ c.if-is_some.false)
    c.in_ok-write_of.ensures refl
