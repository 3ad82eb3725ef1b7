-- Answers of CodeRevisions::told: the parent that was told stands for one state, in which its child has the number.
use Rattle.std.proofs.Common.{◌≡◌, sym, ap, ◌∙◌}
use Rattle.rev_code.specs.Events as events
use Rattle.code_machine.specs.Local.{at_work}
use Rattle.run_revision.specs.CodeState.{state_of}
use Rattle.rev_vm.specs.Starts.{run_under}
use Rattle.rev_vm.specs.States.{state_at}
use Rattle.rev_vm.specs.Values.{runner_state}
use Rattle.rev_vm.proofs.Born.{one_runner, runner_own}
use Rattle.rev_vm.proofs.Values.{one_state}
use Rattle.run_revision.specs.Forking.{renamed, told_as}
use Rattle.run_revision.proofs.Standing.{renamed_parent}
use Rattle.run_revision.proofs.legs.CodeRevisionsLegs.told.Goals as goal

pub invariant_of-result : goal.invariant_of-result
invariant_of-result g c =
    let own = run_under c.parent.inside.setting.now in
    let w = c.parent.invariant in
    runner_own own c.told.result _ (c.told.ensures.state own w.0 w.1 w.2)

pub returns-clause-state : goal.returns-clause-state
returns-clause-state g c =
    let own = run_under c.parent.inside.setting.now in
    let w = c.parent.invariant in
    let p = c.parent.inside.parent.revision.value in
    let after : events.parent own.share w.0 w.1 c.args.number ≡ runner_state own c.told.result =
    one_runner own c.told.result
    (events.parent own.share w.0 w.1 c.args.number) (c.told.ensures.state own w.0 w.1 w.2) in
    let before : events.parent own.share w.0 w.1 0
    ≡ state_at own p.run p.memory.delta (g.P.Snapshot.base p.memory.snapshot) p.memory.first.roots =
    one_state own p.run p.memory.delta (g.P.Snapshot.base p.memory.snapshot) p.memory.first.roots
    (events.parent own.share w.0 w.1 0) w.2 in
    ap (λ z. state_of own (at_work z))
    (sym after ∙ (sym (renamed_parent own.share w.0 w.1 c.args.number) ∙ ap (λ z. renamed z c.args.number) before))
    ∙ ap (λ z. told_as z c.args.number) c.parent.view_is
