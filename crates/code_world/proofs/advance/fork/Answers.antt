-- Answers of fork: the forker that is told the child's number and the child are the two that the leg forks.
use Rattle.rev_vm.specs.Starts.{run_under}
use Rattle.code_world.proofs.Coming.{has_forked}
use Rattle.code_world.proofs.advance.fork.Goals as goal

pub fork-requires : goal.fork-requires
fork-requires c = record { at = c.requires.stands }

pub returns-in-Ok : goal.returns-in-Ok
returns-in-Ok c = λ s d args is at.
    let kid = c.in-Ok.ensures.child d args at in
    let one = c.line-line.ensures (run_under c.args.setting.now) d args at in (
      has_forked (run_under c.args.setting.now) c.args.child s d c.args.at.block args is kid.0 kid.1 c.told.result
          c.in-Ok.kid
          (c.told.ensures.state (run_under c.args.setting.now) d args (c.in-Ok.ensures.parent d args at)) kid.2,
      record { at = d; block = c.args.at.block; args = args; comes = is; is = one },
    )
