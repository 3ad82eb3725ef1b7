-- Answers of TurnHub::halt_twice: the plan of the value in the slot, with a halt, is a step that the rule allows.
use Rattle.std.proofs.Common.{rules, ◌≡◌, ◌*◌, length, ◌+◌, ◌%◌, [], ◌∷◌, refl, sym, ◌∙◌, subst}
use mathlib.Core.Option.{none}
use Rattle.atomic_table.specs.Table.{step, Allows}
use Rattle.hub_core.specs.declared.state.HubState.TheVariants.{Twice}
use Rattle.hub_core.specs.declared.desk.DeskSlot.TheVariants.{Home}
use Rattle.hub_core.specs.Tally.{Tallied, Shut}
use Rattle.hub_core.specs.TallySteps.{first_sight, planned_halt, kept_after}
use Rattle.hub_core.proofs.Planned.{plan_halts}
use Rattle.turn_hub.proofs.Homes.{same_box}
use Rattle.turn_hub.proofs.hub.TurnHub.halt_twice.Goals as goal

pub fetch_add-count-requires : goal.fetch_add-count-requires
fetch_add-count-requires g c =
    let can = c.requires.can in
    let v = c.args.place.now.me.0 in
    let first = first_sight c.args.self.now.turn.shared.key.views in
    let id = c.args.self.now.turn.shared.table_id in (
      c.put_in_desk.ensures.own ∙ c.requires.own.0,
      search rules,
      subst (λ m.
          Allows (Tallied g.L.Revision.machine g.L.Revision.ends first) id.slots c.put_in_desk.new.place.id m 16
          (λ n. (n + 1) % 18446744073709551616)
          (planned_halt g.L.Revision.machine g.L.Revision.ends Twice (step id.slots 16 1 0 none) m))
          (sym c.put_in_desk.ensures.after)
          (plan_halts g.L.Revision.machine g.L.Revision.ends first (v, (0, Home c.args.desk) ∷ []) can.may.start
          c.args.desk can.hand can.may.begun refl _ _ Twice (step id.slots 16 1 0 none) can.to can.may refl
          can.same),
    )

pub take_out_desk-requires-clause-home : goal.take_out_desk-requires-clause-home
take_out_desk-requires-clause-home g c =
    let can = c.requires.can in
    let told =
    subst (λ m. planned_halt g.L.Revision.machine g.L.Revision.ends Twice
    (step c.args.self.now.turn.shared.table_id.slots 16 1 0 none) m c.fetch_add-count.result
    c.fetch_add-count.new.seat.me)
    c.put_in_desk.ensures.after c.fetch_add-count.ensures.2 in
    (c.args.desk, (told can.may.start c.args.desk can.hand can.may.begun refl).1)

pub returns-clause-same : goal.returns-clause-same
returns-clause-same g c =
    let can = c.requires.can in
    let told =
    subst (λ m. planned_halt g.L.Revision.machine g.L.Revision.ends Twice
    (step c.args.self.now.turn.shared.table_id.slots 16 1 0 none) m c.fetch_add-count.result
    c.fetch_add-count.new.seat.me)
    c.put_in_desk.ensures.after c.fetch_add-count.ensures.2 in
    same_box _ c.take_out_desk.result c.args.desk c.take_out_desk.ensures.slot
    (told can.may.start c.args.desk can.hand can.may.begun refl).1

pub returns-clause-shut : goal.returns-clause-shut
returns-clause-shut g c = λ start hand begun.
    let v = c.args.place.now.me.0 in
    let desk = c.args.desk.value in
    let told =
    subst (λ m. planned_halt g.L.Revision.machine g.L.Revision.ends Twice
    (step c.args.self.now.turn.shared.table_id.slots 16 1 0 none) m c.fetch_add-count.result
    c.fetch_add-count.new.seat.me)
    c.put_in_desk.ensures.after c.fetch_add-count.ensures.2 in
    let at = told start c.args.desk hand begun refl in
    subst (λ w.
    (shut : Shut g.L.Revision.machine g.L.Revision.ends Twice v w start hand.slots desk.plan.deeds.items
    (kept_after desk v.mine) (kept_after desk))
    × (c.fetch_add-count.result ≡ 2 * length shut.slots))
    (sym c.take_out_desk.ensures.view) (at.0, at.2)
