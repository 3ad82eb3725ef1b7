-- Answers of TurnHub::give: to give the turn up is a step that the rule allows to the seat that has put it home.
use Rattle.std.proofs.Common.{rules, ◌≡◌, ℕ, List, [], sym, subst}
use Rattle.atomic_table.specs.Table.{Allows}
use Rattle.hub_core.specs.declared.desk.DeskSlot.{DeskSlot}
use Rattle.hub_core.specs.Tally.{Tallied, gives_back}
use Rattle.hub_core.specs.TallySteps.{first_sight}
use Rattle.hub_core.proofs.Turning.{give}
use Rattle.turn_hub.proofs.hub.TurnHub.give.Goals as goal

pub store-requires : goal.store-requires
store-requires g c =
    let v = c.args.place.now.me.0 in
    let first = first_sight c.args.self.now.turn.shared.key.views in
    let id = c.args.self.now.turn.shared.table_id in (
      c.requires.own,
      search rules,
      subst (λ (l : List (ℕ × DeskSlot g.row.L-Runner.Denot g.row.L-AtJoin.Denot g.row.L-End.Denot)).
          Allows (Tallied g.L.Revision.machine g.L.Revision.ends first) id.slots c.args.place.now.id (v, l) 0 (λ _. 0)
          (λ _ me. me ≡ (gives_back v, [])))
          (sym c.requires.hand.2)
          (give g.L.Revision.machine g.L.Revision.ends first _ _ v c.requires.hand.0 c.requires.hand.1),
    )
