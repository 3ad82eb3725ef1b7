-- Answers of CodeRevisions::dropped: a joiner that dropped a trap stands for one state alone, that of the hub's join.
use Rattle.std.proofs.Common.{◌≡◌, true, false, sym, ap, ◌∙◌}
use Rattle.rev_code.specs.Events.{past_join}
use Rattle.code_machine.specs.Local.{at_work}
use Rattle.run_revision.specs.CodeState.{state_of}
use Rattle.run_revision.specs.CodeValues.{joined}
use Rattle.rev_vm.specs.Starts.{run_under}
use Rattle.rev_vm.specs.Values.{joiner_state}
use Rattle.rev_vm.proofs.Born.{one_runner, runner_own}
use Rattle.run_revision.proofs.Events.{dropped_is}
use Rattle.run_revision.proofs.legs.CodeRevisionsLegs.dropped.Goals as goal

pub invariant_of-result : goal.invariant_of-result
invariant_of-result g c =
    let own = run_under c.at.inside.setting.now in
    runner_own own c.dropped.result _ (c.dropped.ensures.state own (joiner_state own c.at.inside.at) c.at.invariant)

pub returns-clause-state : goal.returns-clause-state
returns-clause-state g c e trap =
    let own = run_under c.at.inside.setting.now in
    let s = joiner_state own c.at.inside.at in
    let try : c.at.inside.at.is_try ≡ true = ap (λ a. a.try) c.at.view_is ∙ c.requires in
    let one =
    one_runner own c.dropped.result
    (past_join s true false c.at.inside.at.on) (c.dropped.ensures.state own s c.at.invariant) in
    ap (λ z. state_of own (at_work z)) (sym one)
    ∙ (sym (ap (state_of own) (dropped_is own s c.at.inside.at.is_try c.at.inside.at.on e.left e.left.phase try trap))
    ∙ ap (λ a. joined a e) c.at.view_is)
