-- Answers of CodeRevisions::run_leg: each event of the machine's leg is the hub's, since it stands for one state.
use Rattle.std.proofs.Common.{◌≡◌, refl, sym, ap, ◌∙◌}
use Rattle.run_revision.specs.CodeValues.{JoinerValue}
use Rattle.rev_vm.specs.Starts.{run_under}
use Rattle.rev_vm.specs.Values.{runner_state, fork_state, fork_group, joiner_state, joiner_group}
use Rattle.rev_vm.proofs.Forking.{safe}
use Rattle.rev_vm.proofs.Values.{one_state, one_joining}
use Rattle.run_revision.specs.Forking.{ForkValue, arguments_at, forker, child}
use Rattle.run_revision.proofs.Standing.{fork_own, own_args, join_own, end_own, same_hand}
use Rattle.run_revision.proofs.Events.{forks_here, joins_here, ends_here, traps_here}
use Rattle.run_revision.proofs.legs.CodeRevisionsLegs.run_leg.Goals as goal

pub invariant_of-result : goal.invariant_of-result
invariant_of-result g c =
    let e = rw c.in-Ok-Fork.field-0-is at
    (c.in-Ok-Fork.ensures.event (runner_state (run_under c.runner.inside.setting.now) c.runner.inside.runner)
    c.runner.invariant) in
    fork_own (run_under c.runner.inside.setting.now) _ _ _ _ c.in-Ok-Fork.at.block e.0 e.1 e.3

pub invariant_of-result-in-Ok-Join : goal.invariant_of-result-in-Ok-Join
invariant_of-result-in-Ok-Join g c =
    let own = run_under c.runner.inside.setting.now in
    let e = rw c.in-Ok-Join.field-0-is at
    (c.in-Ok-Join.ensures.event (runner_state own c.runner.inside.runner) c.runner.invariant) in
    let at = c.in-Ok-Join.at in
    join_own own at.revision.value.run at.revision.value.memory.delta
    (g.P.Snapshot.base at.revision.value.memory.snapshot) at.revision.value.memory.first.roots at.is_try at.on e.0 e.2

pub leave-requires-clause-end : goal.leave-requires-clause-end
leave-requires-clause-end g c =
    let e = rw c.in-Ok-End.field-0-is at
    (c.in-Ok-End.ensures.event (runner_state (run_under c.runner.inside.setting.now) c.runner.inside.runner)
    c.runner.invariant) in
    end_own (run_under c.runner.inside.setting.now) _ c.in-Ok-End.stopped.end e.3

pub leave-requires-in-Ok-Trap-clause-end : goal.leave-requires-in-Ok-Trap-clause-end
leave-requires-in-Ok-Trap-clause-end g c =
    let e = rw c.in-Ok-Trap.field-0-is at
    (c.in-Ok-Trap.ensures.event (runner_state (run_under c.runner.inside.setting.now) c.runner.inside.runner)
    c.runner.invariant) in
    end_own (run_under c.runner.inside.setting.now) _ c.in-Ok-Trap.stopped.end e.3

pub returns-in-Ok-Fork-clause-event : goal.returns-in-Ok-Fork-clause-event
returns-in-Ok-Fork-clause-event g c =
    let own = run_under c.runner.inside.setting.now in
    let e = rw c.in-Ok-Fork.field-0-is at
    (c.in-Ok-Fork.ensures.event (runner_state own c.runner.inside.runner) c.runner.invariant) in
    let r = c.in-Ok-Fork.at.revision.value in
    let base = g.P.Snapshot.base r.memory.snapshot in
    let s = safe own r.run r.memory.delta base r.memory.first.roots c.in-Ok-Fork.at.block e.0 e.1 e.3 in
    let state : e.0 ≡ fork_state own c.in-Ok-Fork.at =
    one_state own r.run r.memory.delta base r.memory.first.roots e.0 e.3.stands in
    let args : e.1 ≡ arguments_at own (fork_state own c.in-Ok-Fork.at) =
    own_args own r.run r.memory.delta base r.memory.first.roots c.in-Ok-Fork.at.block e.0 e.1 e.3 in
    let v : ForkValue = record {
      run = own;
      state = fork_state own c.in-Ok-Fork.at;
      block = c.in-Ok-Fork.at.block;
      args = arguments_at own (fork_state own c.in-Ok-Fork.at);
      group = fork_group c.in-Ok-Fork.at;
    } in
    forks_here own (runner_state own c.runner.inside.runner) e.0 c.in-Ok-Fork.at.block e.1 c.args.runner.state v
    s.0.body (ap (λ x. x.state) c.runner.view_is) e.2
    (ap (λ z. record {
      run = own;
      state = z;
      block = c.in-Ok-Fork.at.block;
      args = arguments_at own (fork_state own c.in-Ok-Fork.at);
      group = fork_group c.in-Ok-Fork.at;
    }) (sym state)
    ∙ ap (λ z.
    record { run = own; state = e.0; block = c.in-Ok-Fork.at.block; args = z; group = fork_group c.in-Ok-Fork.at })
    (sym args))
    s.0.is

pub returns-in-Ok-Join-clause-event : goal.returns-in-Ok-Join-clause-event
returns-in-Ok-Join-clause-event g c =
    let own = run_under c.runner.inside.setting.now in
    let e = rw c.in-Ok-Join.field-0-is at
    (c.in-Ok-Join.ensures.event (runner_state own c.runner.inside.runner) c.runner.invariant) in
    let at = c.in-Ok-Join.at in
    let a : JoinerValue = record {
      run = own;
      state = joiner_state own c.in-Ok-Join.at;
      try = at.is_try;
      on = at.on;
      group = joiner_group c.in-Ok-Join.at;
    } in
    joins_here own (runner_state own c.runner.inside.runner) e.0 a c.args.runner.state
    (ap (λ x. x.state) c.runner.view_is) refl
    (one_joining own at.revision.value.run at.revision.value.memory.delta
    (g.P.Snapshot.base at.revision.value.memory.snapshot) at.revision.value.memory.first.roots at.is_try
    at.on e.0 e.2)
    e.1

pub returns-in_ok-leave-in-Ok-End-clause-event : goal.returns-in_ok-leave-in-Ok-End-clause-event
returns-in_ok-leave-in-Ok-End-clause-event g c =
    let own = run_under c.runner.inside.setting.now in
    let e = rw c.in-Ok-End.field-0-is at
    (c.in-Ok-End.ensures.event (runner_state own c.runner.inside.runner) c.runner.invariant) in
    ends_here forker child own (runner_state own c.runner.inside.runner) e.0 e.1 c.in-Ok-End.stopped.end
    c.args.runner.state c.in_ok-leave-in-Ok-End.field-0 (ap (λ x. x.state) c.runner.view_is) e.2 e.3
    (rw c.in-Ok-End.field-0-is at c.in-Ok-End.ensures.own) c.in_ok-leave-in-Ok-End.ensures.run
    c.in_ok-leave-in-Ok-End.ensures.left

pub returns-in_ok-leave-in-Ok-Trap-clause-event : goal.returns-in_ok-leave-in-Ok-Trap-clause-event
returns-in_ok-leave-in-Ok-Trap-clause-event g c =
    let own = run_under c.runner.inside.setting.now in
    let e = rw c.in-Ok-Trap.field-0-is at
    (c.in-Ok-Trap.ensures.event (runner_state own c.runner.inside.runner) c.runner.invariant) in
    traps_here forker child own (runner_state own c.runner.inside.runner) e.0 e.1 c.in-Ok-Trap.stopped.end
    c.args.runner.state c.in_ok-leave-in-Ok-Trap.field-0 (ap (λ x. x.state) c.runner.view_is) e.2 e.3
    (rw c.in-Ok-Trap.field-0-is at c.in-Ok-Trap.ensures.own) c.in_ok-leave-in-Ok-Trap.ensures.run
    c.in_ok-leave-in-Ok-Trap.ensures.left

pub returns-in_err-leave-in-Ok-End-clause-hand : goal.returns-in_err-leave-in-Ok-End-clause-hand
returns-in_err-leave-in-Ok-End-clause-hand g c =
    same_hand _ _ c.leave.new.hand c.hand.view_is c.leave.ensures.hand

pub returns-in_ok-leave-in-Ok-End-clause-hand : goal.returns-in_ok-leave-in-Ok-End-clause-hand
returns-in_ok-leave-in-Ok-End-clause-hand g c =
    same_hand _ _ c.leave.new.hand c.hand.view_is c.leave.ensures.hand

pub returns-in_err-leave-in-Ok-Trap-clause-hand : goal.returns-in_err-leave-in-Ok-Trap-clause-hand
returns-in_err-leave-in-Ok-Trap-clause-hand g c =
    same_hand _ _ c.leave-in-Ok-Trap.new.hand c.hand.view_is c.leave-in-Ok-Trap.ensures.hand

pub returns-in_ok-leave-in-Ok-Trap-clause-hand : goal.returns-in_ok-leave-in-Ok-Trap-clause-hand
returns-in_ok-leave-in-Ok-Trap-clause-hand g c =
    same_hand _ _ c.leave-in-Ok-Trap.new.hand c.hand.view_is c.leave-in-Ok-Trap.ensures.hand
