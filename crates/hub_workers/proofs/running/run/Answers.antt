-- Answers of run: an open hub starts at the first revision with new seats, so its run is a run from there.
use Rattle.std.proofs.Common.{◌≡◌, Some, subst, ◌∙◌}
use Rattle.std.proofs.lemmas.List.Elements.{All-weaker}
use Rattle.turn_hub.specs.Names.{began}
use Rattle.hub_workers.specs.Running.{IsRunFrom}
use Rattle.hub_workers.proofs.Rows.{all_new}
use Rattle.hub_workers.proofs.running.run.Goals as goal

pub run_open-requires-clause-seats : goal.run_open-requires-clause-seats
run_open-requires-clause-seats g c κs within =
    all_new c.in-Ok-open.hub (Some (g.L.Revision.machine.runs c.args.first))
    (g.L.Revision.machine.runner_group c.args.first) c.in-Ok-open.seats.items c.in-Ok-open.ensures.start
    c.in-Ok-open.ensures.group c.in-Ok-open.ensures.own c.in-Ok-open.ensures.fresh

pub returns-in-Ok-open-clause-run : goal.returns-in-Ok-open-clause-run
returns-in-Ok-open-clause-run g c =
    subst (λ group.
    IsRunFrom g.L.Revision.machine g.L.Revision.ends (g.L.Revision.machine.runs c.args.first) group
    c.run_open.result.run)
    c.in-Ok-open.ensures.group
    (c.run_open.ensures.run (g.L.Revision.machine.runs c.args.first) c.in-Ok-open.ensures.start)

pub returns-in-Ok-open-clause-hands : goal.returns-in-Ok-open-clause-hands
returns-in-Ok-open-clause-hands g c =
    All-weaker (λ h. g.L.Legs.hand_group h ≡ (began c.in-Ok-open.hub).group)
    (λ h. g.L.Legs.hand_group h ≡ g.L.Revision.machine.runner_group c.args.first)
    (λ h e. e ∙ c.in-Ok-open.ensures.group) c.run_open.result.hands.items c.run_open.ensures.hands
