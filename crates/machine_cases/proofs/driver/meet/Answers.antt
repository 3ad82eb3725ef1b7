-- Answers of meet: a trap at a try is dropped, and the joiner stands for its state behind the join.
use Rattle.std.specs.Prelude.{true, false}
use Rattle.rev_code.specs.Events.{past_join}
use Rattle.rev_vm.specs.Starts.{run_under}
use Rattle.machine_cases.proofs.driver.meet.Goals as goal

pub returns-then-is_try-clause-settled : goal.returns-then-is_try-clause-settled
returns-then-is_try-clause-settled g c =
    let q = c.requires.stands in
    (past_join q.0 true false c.args.at.on, c.dropped.ensures.state (run_under c.args.setting.now) q.0 q.1)
