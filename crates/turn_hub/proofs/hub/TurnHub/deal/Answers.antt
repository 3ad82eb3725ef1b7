-- Answers of TurnHub::deal: the seat that is split off is new, and the one that deals has a part fewer.
use Rattle.std.proofs.Common.{rules, length, sym, ap, ◌∙◌, subst}
use Rattle.hub_core.proofs.Lists.{many_more}
use Rattle.turn_hub.specs.Seats.{AreOf, AreNew}
use Rattle.turn_hub.proofs.Rows.{are_more, new_more, map_items}
use Rattle.turn_hub.proofs.hub.TurnHub.deal.Goals as goal

pub loop-preserved : goal.loop-preserved
loop-preserved g c =
    let i = c.loop.invariant in
    let own = c.another-next.ensures.own in
    let new = c.another-next.ensures.new in
    let items = c.append.ensures.items in
    let places = map_items _ _ _ items (λ s. s.place) in
    let parts = ap (λ m. m.0.seat.parts) own.1 in
    let len = ap length items ∙ many_more c.loop.list.items c.another-next.result in
    let old = i.3 in
    let many = i.4 in
    let me = own.1 in
    let its = new.1 in (
      own.0 ∙ i.0,
      ap (λ m. m.0.seat.has) me,
      ap (λ m. m.1) me,
      search rules,
      search rules,
      search rules,
      subst (AreOf c.args.self.now.turn.shared.table_id) (sym places) (are_more _ _ _ i.6 (new.0 ∙ i.0)),
      subst (AreNew c.args.place.me.0.seat.start c.args.place.me.0.seat.group) (sym places) (new_more _ _ _ _ i.7 (
        ap (λ m. m.0.seat.start) its ∙ i.8,
        ap (λ m. m.0.seat.group) its ∙ i.9,
        ap (λ m. m.0.seat.passes) its,
        ap (λ m. m.0.seat.saw) its,
        ap (λ m. m.0.seat.halt) its,
      )),
      ap (λ m. m.0.seat.start) me ∙ i.8,
      ap (λ m. m.0.seat.group) me ∙ i.9,
      ap (λ m. m.0.seat.passes) me ∙ i.10,
      ap (λ m. m.0.seat.saw) me ∙ i.11,
      ap (λ m. m.0.seat.halt) me ∙ i.12,
      ap (λ m. m.0.rounds) me ∙ i.13,
      ap (λ m. m.0.mine) me ∙ i.14,
    )

pub returns-clause-own : goal.returns-clause-own
returns-clause-own g c =
    let i = c.loop.invariant in
    let places = map_items _ _ _ c.append-2.ensures.items (λ s. s.place) in
    subst (AreOf c.args.self.now.turn.shared.table_id) (sym places)
    (are_more _ _ _ i.6 (ap (λ p. p.table_id) c.seat_at.ensures ∙ i.0))

pub returns-clause-fresh : goal.returns-clause-fresh
returns-clause-fresh g c =
    let i = c.loop.invariant in
    let is = c.seat_at.ensures in
    let places = map_items _ _ _ c.append-2.ensures.items (λ s. s.place) in
    subst (AreNew c.args.place.me.0.seat.start c.args.place.me.0.seat.group) (sym places)
    (new_more _ _ _ _ i.7 (
      ap (λ p. p.me.0.seat.start) is ∙ i.8,
      ap (λ p. p.me.0.seat.group) is ∙ i.9,
      ap (λ p. p.me.0.seat.passes) is ∙ i.10,
      ap (λ p. p.me.0.seat.saw) is ∙ i.11,
      ap (λ p. p.me.0.seat.halt) is ∙ i.12,
    ))
