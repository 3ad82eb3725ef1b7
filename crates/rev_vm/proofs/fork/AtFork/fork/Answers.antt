-- Answers of AtFork::fork: the revision in the box stands as it does outside, and so parent and child stand.
use Rattle.std.proofs.Common.{sym}
use Rattle.rev_code.specs.Events as events
use Rattle.rev_vm.specs.Starts.{run_under}
use Rattle.rev_vm.proofs.Boxes.{same_fork}
use Rattle.rev_vm.proofs.fork.AtFork.fork.Goals as goal

pub fork_off-requires : goal.fork_off-requires
fork_off-requires g c =
    let q = c.requires.at in
    record {
      at = (
        q.0,
        q.1,
        same_fork (sym c.deref_mut.ensures.value) (run_under c.args.setting.now) c.args.self.block q.0 q.1 q.2,
      );
    }

pub returns-in-Ok-born-clause-parent : goal.returns-in-Ok-born-clause-parent
returns-in-Ok-born-clause-parent g c = λ s args h.
    c.in-Ok.ensures.parent s args
    (same_fork (sym c.deref_mut.ensures.value) (run_under c.args.setting.now) c.args.self.block s args h)

pub returns-in-Ok-born-clause-child : goal.returns-in-Ok-born-clause-child
returns-in-Ok-born-clause-child g c = λ s args h.
    let q = c.in-Ok.ensures.child s args
    (same_fork (sym c.deref_mut.ensures.value) (run_under c.args.setting.now) c.args.self.block s args h) in (
      q.0,
      q.1,
      c.in-Ok-born.ensures.state (run_under c.args.setting.now)
          (events.child c.args.setting.now.share s c.args.self.block q.0 args) q.2,
    )
