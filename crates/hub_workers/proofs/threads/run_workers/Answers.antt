-- Answers of run_workers: what the closure promises of each worker holds of the worker at its place.
use Rattle.std.proofs.Common.{rules, ◌≡◌, length, subst, arith}
use Rattle.hub_workers.specs.Threads.{HasWorked}
use Rattle.hub_workers.proofs.threads.run_workers.Goals as goal

pub returns-clause-each : goal.returns-clause-each
returns-clause-each g c k d h =
    let same : length c.for_each_mut.new.s ≡ length c.args.workers.now = search rules in
    let e = (c.for_each_mut.ensures k d (omega arith)).1 in
    subst (λ w. HasWorked g.L.Legs.begins g.L.Legs.hand_group c.args.hub.now w.seat w.hand) e.left e.call
