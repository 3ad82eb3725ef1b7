-- Answers of CodeRevisions::split: parent and child of the fork stand for one state each, which are the hub's fork's.
use Rattle.std.proofs.Common.{◌≡◌, sym, ap, ◌∙◌}
use Rattle.rev_code.specs.Events as events
use Rattle.code_machine.specs.Local.{at_work}
use Rattle.run_revision.specs.CodeState.{state_of}
use Rattle.rev_vm.specs.Starts.{run_under}
use Rattle.rev_vm.specs.States.{state_at}
use Rattle.rev_vm.specs.Values.{runner_state, fork_state, fork_group}
use Rattle.rev_vm.proofs.Born.{one_runner, runner_own}
use Rattle.rev_vm.proofs.Values.{one_state}
use Rattle.run_revision.specs.Forking.{ForkValue, arguments_at, forker, child, child_of, renamed}
use Rattle.run_revision.proofs.Standing.{renamed_parent}
use Rattle.run_revision.proofs.legs.CodeRevisionsLegs.split.Goals as goal

pub invariant_of-result : goal.invariant_of-result
invariant_of-result g c =
    let own = run_under c.at.inside.setting.now in
    let s = fork_state own c.at.inside.at in
    (s, arguments_at own s, c.in-Ok.ensures.parent s (arguments_at own s) c.at.invariant)

pub invariant_of-result-in-Ok : goal.invariant_of-result-in-Ok
invariant_of-result-in-Ok g c =
    let own = run_under c.at.inside.setting.now in
    let s = fork_state own c.at.inside.at in
    let e = c.in-Ok.ensures.child s (arguments_at own s) c.at.invariant in
    runner_own own c.in-Ok.runner _ e.2

pub returns-in-Ok-clause-parent : goal.returns-in-Ok-clause-parent
returns-in-Ok-clause-parent g c n =
    let own = run_under c.at.inside.setting.now in
    let s = fork_state own c.at.inside.at in
    let given = arguments_at own s in
    let r = c.in-Ok.parent.revision.value in
    let one : events.parent own.share s given 0
    ≡ state_at own r.run r.memory.delta (g.P.Snapshot.base r.memory.snapshot) r.memory.first.roots =
    one_state own r.run r.memory.delta (g.P.Snapshot.base r.memory.snapshot) r.memory.first.roots
    (events.parent own.share s given 0) (c.in-Ok.ensures.parent s given c.at.invariant) in
    ap (λ z. state_of own (at_work (renamed z n))) (sym one)
    ∙ (ap (λ z. state_of own (at_work z)) (renamed_parent own.share s given n) ∙ ap (λ f. forker f n) c.at.view_is)

pub returns-in-Ok-clause-child : goal.returns-in-Ok-clause-child
returns-in-Ok-clause-child g c =
    let own = run_under c.at.inside.setting.now in
    let s = fork_state own c.at.inside.at in
    let given = arguments_at own s in
    let e = c.in-Ok.ensures.child s given c.at.invariant in
    let v : ForkValue =
    record { run = own; state = s; block = c.at.inside.at.block; args = given; group = fork_group c.at.inside.at } in
    let one : events.child own.share s c.at.inside.at.block e.0 given ≡ runner_state own c.in-Ok.runner =
    one_runner own c.in-Ok.runner
    (events.child own.share s c.at.inside.at.block e.0 given) e.2 in
    ap (λ z. state_of own (at_work z)) (sym one) ∙ (ap (child_of v) (sym e.1) ∙ ap child c.at.view_is)
