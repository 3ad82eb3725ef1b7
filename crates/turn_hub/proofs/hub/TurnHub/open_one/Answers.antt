-- Answers of TurnHub::open_one: a value with one ready runner and no entry is one with which the rule opens a hub.
use Rattle.std.proofs.Common.{rules, ◌≡◌, List, [], Some, sym, subst}
use Rattle.std.specs.Global.{Box}
use Rattle.atomic_table.specs.Table.{opening}
use Rattle.hub_core.specs.declared.desk.Desk.{Desk}
use Rattle.hub_core.specs.declared.desk.DeskSlot.{DeskSlot}
use Rattle.hub_core.specs.declared.sight.Sight.{Sight}
use Rattle.hub_core.specs.Views.{opens}
use Rattle.hub_core.specs.Tally.{sight, Tallied}
use Rattle.hub_core.specs.TallySteps.{first_sight}
use Rattle.hub_core.proofs.Opening.{opened, first_words}
use Rattle.turn_hub.specs.Opening.{IsFirstDesk}
use Rattle.turn_hub.proofs.hub.TurnHub.open_one.Goals as goal

pub new-requires : goal.new-requires
new-requires g c =
    let d = g.L.Revision.machine in
    let first : first_sight c.in-Some.badge.views
    ≡ sight (opens c.args.seats (Some (d.runs c.args.first)) (d.runner_group c.args.first)) [] [] 0 = search rules in
    let homes = c.in_ok-homes.ensures.ok in
    let b : Box (Desk g.row.L-Runner.Denot g.row.L-AtJoin.Denot g.row.L-End.Denot) = homes.0 in
    let h : IsFirstDesk b.value c.args.first =
    subst (λ t. IsFirstDesk t c.args.first) (sym homes.2) c.in_ok-desk.ensures.ok in
    subst
    (λ (z : List (DeskSlot g.row.L-Runner.Denot g.row.L-AtJoin.Denot g.row.L-End.Denot) × Sight g.row.L-State.Denot).
    Tallied d g.L.Revision.ends z.1 (opening (first_words d g.L.Revision.ends) z.0 z.1))
    (λ i. (sym homes.1 i, sym first i))
    (opened d g.L.Revision.ends c.args.first c.args.seats b c.requires.some h.entries h.state h.room h.lent h.strays
    h.records h.queue)
