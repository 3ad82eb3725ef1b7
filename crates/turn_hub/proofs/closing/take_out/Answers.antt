-- Answers of take_out: one seat has all parts and has seen the end, so at the close the value is at home.
use Rattle.std.proofs.Common.{◌≡◌, ◌*◌, ◌+◌, ◌/◌, ℕ, zero, suc, List, [], ◌∷◌, true, length, get_or, refl, sym, ap, ◌∙◌, subst}
use mathlib.Core.Option as m
use lib.ListN.{get_elem?}
use Rattle.std.specs.Slots.{slots_items}
use Rattle.hub_core.specs.declared.desk.DeskSlot.TheVariants.{Home}
use Rattle.hub_core.specs.declared.desk.Desk.{Desk}
use Rattle.hub_core.specs.TallySteps.{has_desk}
use Rattle.hub_core.specs.Views.{halt_count}
use Rattle.hub_core.proofs.Seating.{home_at_end}
use Rattle.turn_hub.specs.Seats.{first_of}
use Rattle.turn_hub.specs.Closing.{ClosedDesk}
use Rattle.turn_hub.proofs.Homes.{home_is}
use Rattle.turn_hub.proofs.Closes.{closes, half_of}
use Rattle.turn_hub.proofs.closing.take_out.Goals as goal

got_or : (l : List ℕ) (i x : ℕ) → get_elem? l i ≡ m.some x → get_or l i 0 ≡ x
got_or [] i x e = absurd (m.some-ne-none x (sym e))
got_or (y ∷ l) zero x e = m.some-injective y x e
got_or (y ∷ l) (suc i) x e = got_or l i x e

pub into_home-requires : goal.into_home-requires
into_home-requires g c =
    let f = c.close_with-closed.ensures.values.2 in
    let seen = f.1 in
    let t = home_at_end _ _ _ f.0 seen.0 _ _ seen.1 c.requires.own.1.0 c.requires.own.1.2 c.requires.every in
    let is : c.take-value.result ≡ Home t.box =
    m.some-injective _ _ (sym c.take-value.ensures.value ∙ f.4 0 (Home t.box) t.home) in
    subst (λ s. has_desk s ≡ true) (sym is) refl

pub returns : goal.returns
returns g c =
    let f = c.close_with-closed.ensures.values.2 in
    let seen = f.1 in
    let t = home_at_end _ _ _ f.0 seen.0 _ _ seen.1 c.requires.own.1.0 c.requires.own.1.2 c.requires.every in
    let is : c.take-value.result ≡ Home t.box =
    m.some-injective _ _ (sym c.take-value.ensures.value ∙ f.4 0 (Home t.box) t.home) in
    let same = ap (λ b. b.value) (home_is t.box _ (sym is ∙ c.into_home.ensures)) ∙ sym c.into_inner.ensures in
    let words : slots_items c.take-value.new.self.words ≡ f.0.words =
    ap slots_items c.take-value.ensures.others.3 ∙ sym f.2 in
    let tally : c.word-tally.result ≡ 2 * length t.slots + halt_count t.box.value.state =
    sym (got_or (slots_items c.take-value.new.self.words) 16 _ c.word-tally.ensures)
    ∙ (ap (λ l. get_or l 16 0) words ∙ t.tally) in
    let half : c.word-tally.result / 2 ≡ length t.slots =
    ap (λ (x : ℕ). x / 2) tally ∙ half_of (length t.slots) t.box.value.state in
    subst (λ (z : Desk g.row.L-Runner.Denot g.row.L-AtJoin.Denot g.row.L-End.Denot × ℕ).
    ClosedDesk g.L.Revision.machine g.L.Revision.ends (first_of c.args.turn.shared.key.views) c.args.place.me.0 z.0 z.1)
    (λ i. (same i, sym half i)) (closes _ _ t c.requires.over)
