-- Answers of go_on: the event of a leg says that the revision stands at a fork or at a join, as the next call asks.
use Rattle.rev_vm.specs.Starts.{run_under}
use Rattle.machine_cases.proofs.Steps.{at_fork, at_join}
use Rattle.machine_cases.proofs.driver.go_on.Goals as goal

pub fork_leaf-requires : goal.fork_leaf-requires
fork_leaf-requires g c =
    let q = c.requires.stands in
    record {
      stands = at_fork (run_under c.args.setting.now) q.0 c.in-Ok-Fork.field-0 c.in-Ok-Fork.at c.in-Ok-Fork.field-0-is
          (c.in-Ok-Fork.ensures.event q.0 q.1);
    }

pub meet-requires-clause-stands : goal.meet-requires-clause-stands
meet-requires-clause-stands g c =
    let q = c.requires.stands in
    at_join (run_under c.args.setting.now) q.0 c.in-Ok-Join.field-0 c.in-Ok-Join.at c.in-Ok-Join.field-0-is
    (c.in-Ok-Join.ensures.event q.0 q.1)

pub returns-in_ok-settled-in-Some-clause-turn : goal.returns-in_ok-settled-in-Some-clause-turn
returns-in_ok-settled-in-Some-clause-turn g c =
    c.turn_of.ensures c.args.setting.now c.in_ok-settled-in-Some.ensures.settled
