-- Answers of leaf_end: an end or a trap is that of the machine's state, and what is retired is that state's end.
use Rattle.rev_vm.specs.Starts.{run_under}
use Rattle.machine_cases.proofs.Steps.{at_end, at_trap}
use Rattle.machine_cases.proofs.driver.leaf_end.Goals as goal

pub returns-in-Ok-End : goal.returns-in-Ok-End
returns-in-Ok-End g c =
    let q = c.requires.stands in
    at_end (run_under c.args.setting.now) q.0 c.in-Ok-End.field-0 c.in-Ok-End.stopped c.in-Ok-End.field-0-is
    (c.in-Ok-End.ensures.event q.0 q.1) c.retire-end.result.0 c.retire-end.ensures.end

pub returns-in-Ok-Trap : goal.returns-in-Ok-Trap
returns-in-Ok-Trap g c =
    let q = c.requires.stands in
    at_trap (run_under c.args.setting.now) q.0 c.in-Ok-Trap.field-0 c.in-Ok-Trap.stopped c.in-Ok-Trap.field-0-is
    (c.in-Ok-Trap.ensures.event q.0 q.1) c.retire-end-in-Ok-Trap.result.0 c.retire-end-in-Ok-Trap.ensures.end
