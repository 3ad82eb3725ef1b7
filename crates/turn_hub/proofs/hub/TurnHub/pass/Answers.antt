-- Answers of TurnHub::pass: the seat that has put the value home may give the turn up as if there had been none.
use Rattle.std.proofs.Common.{rules, ◌≡◌, ℕ, List, [], sym, subst}
use Rattle.atomic_table.specs.Table.{Allows}
use Rattle.hub_core.specs.declared.desk.DeskSlot.{DeskSlot}
use Rattle.hub_core.specs.Tally.{Tallied, lets_pass}
use Rattle.hub_core.specs.TallySteps.{first_sight}
use Rattle.hub_core.proofs.Turning.{pass}
use Rattle.turn_hub.proofs.hub.TurnHub.pass.Goals as goal

pub store-requires : goal.store-requires
store-requires g c =
    let v = c.args.place.now.me.0 in
    let first = first_sight c.args.self.now.turn.shared.key.views in
    let id = c.args.self.now.turn.shared.table_id in (
      c.requires.own,
      search rules,
      subst (λ (l : List (ℕ × DeskSlot g.row.L-Runner.Denot g.row.L-AtJoin.Denot g.row.L-End.Denot)).
          Allows (Tallied g.L.Revision.machine g.L.Revision.ends first) id.slots c.args.place.now.id (v, l) 0 (λ _. 0)
          (λ _ me. me ≡ (lets_pass v, [])))
          (sym c.requires.hand.2)
          (pass g.L.Revision.machine g.L.Revision.ends first _ _ v c.requires.hand.0 c.requires.hand.1),
    )
