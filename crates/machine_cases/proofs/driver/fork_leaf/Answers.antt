-- Answers of fork_leaf: the state that stands at the fork gives the child's state and that of the parent when told.
use Rattle.rev_code.specs.Events as events
use Rattle.rev_vm.specs.Starts.{run_under}
use Rattle.machine_cases.proofs.driver.fork_leaf.Goals as goal

pub leaf_end-requires : goal.leaf_end-requires
leaf_end-requires g c =
    let q = c.requires.stands in
    let k = c.in-Ok.ensures.child q.0 q.1 q.2 in
    record { stands = (events.child c.args.setting.now.share q.0 c.args.at.block k.0 q.1, k.2) }

pub returns-in-Ok-leaf_end : goal.returns-in-Ok-leaf_end
returns-in-Ok-leaf_end g c =
    let q = c.requires.stands in (
      (
        events.parent c.args.setting.now.share q.0 q.1 c.args.number,
        c.told.ensures.state (run_under c.args.setting.now) q.0 q.1 (c.in-Ok.ensures.parent q.0 q.1 q.2),
      ),
      c.in-Ok-leaf_end.ensures,
    )
