-- Answers of TurnHub::carry_out: the plan of the value in the slot is a step that the rule allows.
use Rattle.std.proofs.Common.{rules, [], ◌∷◌, None, refl, sym, ◌∙◌, subst}
use mathlib.Core.Option.{none}
use Rattle.atomic_table.specs.Table.{step, Allows}
use Rattle.hub_core.specs.declared.desk.DeskSlot.TheVariants.{Home}
use Rattle.hub_core.specs.Tally.{Tallied, Entered}
use Rattle.hub_core.specs.TallySteps.{first_sight, planned, kept_after}
use Rattle.hub_core.proofs.Planned.{plan_enters}
use Rattle.turn_hub.proofs.Homes.{same_box}
use Rattle.turn_hub.proofs.hub.TurnHub.carry_out.Goals as goal

pub load-count-requires : goal.load-count-requires
load-count-requires g c =
    let can = c.requires.can in
    let v = c.args.place.now.me.0 in
    let first = first_sight c.args.self.now.turn.shared.key.views in
    let id = c.args.self.now.turn.shared.table_id in (
      c.put_in_desk.ensures.own ∙ c.requires.own.0,
      search rules,
      subst (λ m.
          Allows (Tallied g.L.Revision.machine g.L.Revision.ends first) id.slots c.put_in_desk.new.place.id m 16 (λ
          n. n)
          (planned g.L.Revision.machine g.L.Revision.ends (step id.slots 16 0 0 none) m))
          (sym c.put_in_desk.ensures.after)
          (plan_enters g.L.Revision.machine g.L.Revision.ends first (v, (0, Home c.args.desk) ∷ []) can.may.start
          c.args.desk can.hand can.may.begun refl _ _ (step id.slots 16 0 0 none) can.es can.to can.may refl can.same),
    )

pub take_out_desk-requires-clause-home : goal.take_out_desk-requires-clause-home
take_out_desk-requires-clause-home g c =
    let can = c.requires.can in
    let told =
    subst (λ m. planned g.L.Revision.machine g.L.Revision.ends
    (step c.args.self.now.turn.shared.table_id.slots 16 0 0 none) m c.load-count.result c.load-count.new.seat.me)
    c.put_in_desk.ensures.after c.load-count.ensures.2 in
    (c.args.desk, (told can.may.start c.args.desk can.hand can.may.begun refl).1)

pub returns-clause-same : goal.returns-clause-same
returns-clause-same g c =
    let can = c.requires.can in
    let told =
    subst (λ m. planned g.L.Revision.machine g.L.Revision.ends
    (step c.args.self.now.turn.shared.table_id.slots 16 0 0 none) m c.load-count.result c.load-count.new.seat.me)
    c.put_in_desk.ensures.after c.load-count.ensures.2 in
    same_box _ c.take_out_desk.result c.args.desk c.take_out_desk.ensures.slot
    (told can.may.start c.args.desk can.hand can.may.begun refl).1

pub returns-clause-entered : goal.returns-clause-entered
returns-clause-entered g c = λ start hand begun.
    let v = c.args.place.now.me.0 in
    let desk = c.args.desk.value in
    let told =
    subst (λ m. planned g.L.Revision.machine g.L.Revision.ends
    (step c.args.self.now.turn.shared.table_id.slots 16 0 0 none) m c.load-count.result c.load-count.new.seat.me)
    c.put_in_desk.ensures.after c.load-count.ensures.2 in
    subst (λ w.
    Entered g.L.Revision.machine g.L.Revision.ends v w start hand.slots desk.plan.deeds.items None
    (kept_after desk v.mine) (kept_after desk) c.load-count.result)
    (sym c.take_out_desk.ensures.view) (told start c.args.desk hand begun refl).0
