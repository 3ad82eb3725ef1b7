-- Answers of TurnHub::open_number: the value and the table have room for the number, and nothing else changes.
use Rattle.std.proofs.Common.{rules, ◌≡◌, ◌≤◌, ◌/◌, true, false, sym, ap, ◌∙◌, subst, arith}
use Rattle.hub_core.specs.Tally.{HasDesk}
use Rattle.turn_hub.specs.Turns.{IsIn}
use Rattle.turn_hub.proofs.Values.{same_room, hand_same, in_same}
use Rattle.turn_hub.proofs.Widths.{hand_wide, in_wide}
use Rattle.turn_hub.proofs.hub.TurnHub.open_number.Goals as goal

pub returns-then-not-raise_limit-clause-hand : goal.returns-then-not-raise_limit-clause-hand
returns-then-not-raise_limit-clause-hand g c =
    let held = c.deref_mut-held.result.now in
    let raised : c.raise_limit.result ≡ false = search rules in
    hand_same g.L.Revision.machine g.L.Revision.ends c.args.place.now.me.0 c.args.desk.value
    (record held { journal = c.raise_limit.new.journal; plan = held.plan }) c.requires.hand
    (same_room c.args.desk.value held c.raise_limit.new.journal held.plan c.deref_mut-held.ensures.value
    c.raise_limit.ensures.entries (c.raise_limit.ensures.none raised))

pub returns-then-not-raise_limit-clause-told : goal.returns-then-not-raise_limit-clause-told
returns-then-not-raise_limit-clause-told g c = λ v0 h.
    let held = c.deref_mut-held.result.now in
    let raised : c.raise_limit.result ≡ false = search rules in
    in_same g.L.Revision.machine g.L.Revision.ends v0 c.args.place.now.me.0 c.args.desk.value
    (record held { journal = c.raise_limit.new.journal; plan = held.plan }) h
    (same_room c.args.desk.value held c.raise_limit.new.journal held.plan c.deref_mut-held.ensures.value
    c.raise_limit.ensures.entries (c.raise_limit.ensures.none raised))

pub returns-clause-hand : goal.returns-clause-hand
returns-clause-hand g c =
    let held = c.deref_mut-held.result.now in
    let value = c.deref_mut-held.ensures.value in
    let desk = record held { journal = c.raise_limit.new.journal } in
    let is = ap (λ x. x.value) c.widen-desk.ensures.same in
    subst (λ x. HasDesk g.L.Revision.machine g.L.Revision.ends c.widen-desk.new.place.me.0 x) (sym is)
    (subst (λ x. HasDesk g.L.Revision.machine g.L.Revision.ends x desk) (sym c.widen-desk.ensures.view)
    (hand_wide g.L.Revision.machine g.L.Revision.ends c.args.place.now.me.0 c.args.desk.value desk c.requires.hand
    (c.raise_limit.ensures.entries ∙ ap (λ x. x.journal.entries.items) value) (ap (λ x. x.records) value)
    (ap (λ x. x.state) value) (ap (λ x. x.lent) value) (ap (λ x. x.strays) value)))

pub returns-clause-told : goal.returns-clause-told
returns-clause-told g c = λ v0 h.
    let held = c.deref_mut-held.result.now in
    let value = c.deref_mut-held.ensures.value in
    let desk = record held { journal = c.raise_limit.new.journal } in
    let is = ap (λ x. x.value) c.widen-desk.ensures.same in
    let raised : c.raise_limit.result ≡ true = search rules in
    let wide = c.raise_limit.ensures.wide raised in
    let was : held.journal.limit ≡ c.args.place.now.me.0.limit =
    ap (λ x. x.journal.limit) value ∙ c.requires.hand.limit_is in
    let over : held.journal.limit ≤ c.peek-number.result / 2 = search rules in
    let first = h.limit in
    subst (λ x. IsIn g.L.Revision.machine g.L.Revision.ends v0 c.widen-desk.new.place.me.0 x) (sym is)
    (subst (λ x. IsIn g.L.Revision.machine g.L.Revision.ends v0 x desk) (sym c.widen-desk.ensures.view)
    (in_wide g.L.Revision.machine g.L.Revision.ends v0 c.args.place.now.me.0 c.args.desk.value desk h
    (c.raise_limit.ensures.entries ∙ ap (λ x. x.journal.entries.items) value) (ap (λ x. x.records) value)
    (ap (λ x. x.state) value) (ap (λ x. x.lent) value) (ap (λ x. x.strays) value) (omega arith)))
