-- Answers of TurnHub::carry_fork: the plan of the value in the slot, with a fork, is a step that the rule allows.
use Rattle.std.proofs.Common.{rules, ◌+◌, ◌*◌, [], ◌∷◌, Some, eqb, refl, sym, ap, ◌∙◌, subst}
use mathlib.Core.Option.{none}
use mathlib.Core.Logic.{dite}
use native.Mathlib.Decide.{ℕ_discrete}
use prog.Atomic.{either}
use Rattle.atomic_table.specs.Table.{step, Allows}
use Rattle.hub_core.specs.declared.desk.DeskSlot.TheVariants.{Home}
use Rattle.hub_core.specs.Tally.{Tallied, Entered}
use Rattle.hub_core.specs.TallySteps.{first_sight, planned_fork, kept_after}
use Rattle.hub_core.proofs.Planned.{plan_forks}
use Rattle.turn_hub.proofs.Homes.{same_box}
use Rattle.turn_hub.proofs.hub.TurnHub.carry_fork.Goals as goal

pub compare_exchange-found-requires : goal.compare_exchange-found-requires
compare_exchange-found-requires g c =
    let can = c.requires.can in
    let v = c.args.place.now.me.0 in
    let n = c.args.number in
    let first = first_sight c.args.self.now.turn.shared.key.views in
    let id = c.args.self.now.turn.shared.table_id in (
      c.put_in_desk.ensures.own ∙ c.requires.own.0,
      search rules,
      subst (λ m.
          Allows (Tallied g.L.Revision.machine g.L.Revision.ends first) id.slots c.put_in_desk.new.place.id m 16
          (λ x. either (eqb x (2 * n)) (2 * n + 2) x)
          (planned_fork g.L.Revision.machine g.L.Revision.ends (step id.slots 16 (2 * n) (2 * n + 2) none) m))
          (sym c.put_in_desk.ensures.after)
          (plan_forks g.L.Revision.machine g.L.Revision.ends first (v, (0, Home c.args.desk) ∷ []) can.may.start
          c.args.desk can.hand can.may.begun refl _ _ n can.es can.to can.may refl can.same c.requires.room),
    )

pub take_out_desk-requires-clause-home : goal.take_out_desk-requires-clause-home
take_out_desk-requires-clause-home g c =
    let can = c.requires.can in
    let n = c.args.number in
    let told =
    subst (λ m. planned_fork g.L.Revision.machine g.L.Revision.ends
    (step c.args.self.now.turn.shared.table_id.slots 16 (2 * n) (2 * n + 2) none) m c.compare_exchange-found.result
    c.compare_exchange-found.new.seat.me)
    c.put_in_desk.ensures.after c.compare_exchange-found.ensures.2 in
    dite (ℕ_discrete c.compare_exchange-found.result (2 * n))
    (λ is. (c.args.desk, (told.0 is can.may.start c.args.desk can.hand can.may.begun refl).1))
    (λ ne. (c.args.desk, ap (λ m. m.1) (told.1 ne)))

pub returns-clause-same : goal.returns-clause-same
returns-clause-same g c =
    let can = c.requires.can in
    let n = c.args.number in
    let told =
    subst (λ m. planned_fork g.L.Revision.machine g.L.Revision.ends
    (step c.args.self.now.turn.shared.table_id.slots 16 (2 * n) (2 * n + 2) none) m c.compare_exchange-found.result
    c.compare_exchange-found.new.seat.me)
    c.put_in_desk.ensures.after c.compare_exchange-found.ensures.2 in
    dite (ℕ_discrete c.compare_exchange-found.result (2 * n))
    (λ is. same_box _ c.take_out_desk.result c.args.desk c.take_out_desk.ensures.slot
    (told.0 is can.may.start c.args.desk can.hand can.may.begun refl).1)
    (λ ne. same_box _ c.take_out_desk.result c.args.desk c.take_out_desk.ensures.slot (ap (λ m. m.1) (told.1 ne)))

pub returns-clause-entered : goal.returns-clause-entered
returns-clause-entered g c = λ is start hand begun.
    let v = c.args.place.now.me.0 in
    let n = c.args.number in
    let desk = c.args.desk.value in
    let told =
    subst (λ m. planned_fork g.L.Revision.machine g.L.Revision.ends
    (step c.args.self.now.turn.shared.table_id.slots 16 (2 * n) (2 * n + 2) none) m c.compare_exchange-found.result
    c.compare_exchange-found.new.seat.me)
    c.put_in_desk.ensures.after c.compare_exchange-found.ensures.2 in
    subst (λ w.
    Entered g.L.Revision.machine g.L.Revision.ends v w start hand.slots desk.plan.deeds.items (Some desk.plan.forks)
    (kept_after desk v.mine) (kept_after desk) c.compare_exchange-found.result)
    (sym c.take_out_desk.ensures.view) (told.0 is start c.args.desk hand begun refl).0

pub returns-clause-missed : goal.returns-clause-missed
returns-clause-missed g c = λ ne.
    let n = c.args.number in
    let told =
    subst (λ m. planned_fork g.L.Revision.machine g.L.Revision.ends
    (step c.args.self.now.turn.shared.table_id.slots 16 (2 * n) (2 * n + 2) none) m c.compare_exchange-found.result
    c.compare_exchange-found.new.seat.me)
    c.put_in_desk.ensures.after c.compare_exchange-found.ensures.2 in
    c.take_out_desk.ensures.view ∙ ap (λ m. m.0) (told.1 ne)
