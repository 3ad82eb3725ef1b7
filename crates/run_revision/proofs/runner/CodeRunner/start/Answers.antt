-- Answers of CodeRunner::start: main is the last block of accepted code, and the runner stands for its start alone.
use Rattle.std.proofs.Common.{[], length, ◌-◌, sym, ap}
use Rattle.rev_code.specs.Events as events
use Rattle.rev_code.specs.Variables.{start_locations}
use Rattle.code_machine.specs.Local.{at_work}
use Rattle.code_machine.specs.Machines.{IsMain}
use Rattle.run_revision.specs.CodeState.{state_of}
use Rattle.rev_vm.specs.Starts.{run_under}
use Rattle.rev_vm.proofs.Mains.{main_there}
use Rattle.rev_vm.proofs.Born.{one_runner, runner_own}
use Rattle.run_revision.proofs.runner.CodeRunner.start.Goals as goal

pub invariant_of-result : goal.invariant_of-result
invariant_of-result g c =
    let s = c.in-Ok.ensures.stands in runner_own (run_under c.args.setting.now) c.in-Ok.runner s.0 s.1

pub returns-in-Ok-clause-start : goal.returns-in-Ok-clause-start
returns-in-Ok-clause-start g c =
    let own = run_under c.args.setting.now in
    let there = main_there c.args.setting.now.code c.args.setting.now.faultless in
    let m : IsMain own (length c.args.setting.now.code.blocks - 1) =
    record { body = there.0; is = there.1; class = there.2 } in
    let first =
    events.start (length c.args.setting.now.code.blocks - 1) there.0 [] (start_locations c.args.setting.now.code.vars)
    c.args.fuel in
    let one =
    one_runner own c.in-Ok.runner first
    (c.in-Ok.ensures.state (length c.args.setting.now.code.blocks - 1) m) in
    record {
      verified = c.args.setting.now.faultless;
      block = length c.args.setting.now.code.blocks - 1;
      main = m;
      is = ap (λ z. state_of own (at_work z)) (sym one);
    }
