-- Answers of TurnHub::widen: to raise the limit to that of the value in the slot is a step that the rule allows.
use Rattle.std.proofs.Common.{rules, [], ◌∷◌, sym, ap, ◌∙◌, subst}
use mathlib.Core.Option.{none}
use Rattle.atomic_table.specs.Table.{step, Allows}
use Rattle.hub_core.specs.declared.desk.DeskSlot.TheVariants.{Home}
use Rattle.hub_core.specs.Tally.{Tallied}
use Rattle.hub_core.specs.TallySteps.{first_sight, widened}
use Rattle.hub_core.proofs.Turning.{widen}
use Rattle.turn_hub.proofs.Homes.{same_box}
use Rattle.turn_hub.proofs.hub.TurnHub.widen.Goals as goal

pub load-requires : goal.load-requires
load-requires g c =
    let v = c.args.place.now.me.0 in
    let first = first_sight c.args.self.now.turn.shared.key.views in
    let id = c.args.self.now.turn.shared.table_id in (
      c.put_in_desk.ensures.own ∙ c.requires.own.0,
      search rules,
      subst (λ m.
          Allows (Tallied g.L.Revision.machine g.L.Revision.ends first) id.slots c.put_in_desk.new.place.id m 0 (λ n. n)
          (widened g.L.Revision.machine g.L.Revision.ends (step id.slots 0 0 0 none) m))
          (sym c.put_in_desk.ensures.after)
          (widen g.L.Revision.machine g.L.Revision.ends first _ _ (v, (0, Home c.args.desk) ∷ [])
          c.args.desk.value.journal.limit c.requires.more.0 c.requires.more.1),
    )

pub take_out_desk-requires-clause-home : goal.take_out_desk-requires-clause-home
take_out_desk-requires-clause-home g c =
    let told =
    subst (λ m. widened g.L.Revision.machine g.L.Revision.ends
    (step c.args.self.now.turn.shared.table_id.slots 0 0 0 none) m c.load.result c.load.new.seat.me)
    c.put_in_desk.ensures.after c.load.ensures.2 in
    (c.args.desk, ap (λ m. m.1) told)

pub returns-clause-same : goal.returns-clause-same
returns-clause-same g c =
    let told =
    subst (λ m. widened g.L.Revision.machine g.L.Revision.ends
    (step c.args.self.now.turn.shared.table_id.slots 0 0 0 none) m c.load.result c.load.new.seat.me)
    c.put_in_desk.ensures.after c.load.ensures.2 in
    same_box _ c.take_out_desk.result c.args.desk c.take_out_desk.ensures.slot (ap (λ m. m.1) told)

pub returns-clause-view : goal.returns-clause-view
returns-clause-view g c =
    let told =
    subst (λ m. widened g.L.Revision.machine g.L.Revision.ends
    (step c.args.self.now.turn.shared.table_id.slots 0 0 0 none) m c.load.result c.load.new.seat.me)
    c.put_in_desk.ensures.after c.load.ensures.2 in
    c.take_out_desk.ensures.view ∙ ap (λ m. m.0) told
