-- Answers of World::begin: a table with the one runner of main is the world at the start, and nothing is printed.
use Rattle.rev_vm.specs.Starts.{run_under}
use Rattle.code_world.proofs.Beginning.{alone}
use Rattle.code_world.proofs.Saying.{first_silent}
use Rattle.code_world.proofs.world.World.begin.Goals as goal

pub returns-clause-silent : goal.returns-clause-silent
returns-clause-silent c =
    first_silent (run_under c.args.setting.now) c.args.fuel c.in_ok-runner.runner c.in_ok-runner.ensures
    c.in_ok-alone.field-0 c.in_ok-alone.ensures

pub returns-clause-begun : goal.returns-clause-begun
returns-clause-begun c =
    let f = c.in_ok-runner.ensures in (
      f.number,
      f.main,
      alone (run_under c.args.setting.now) c.args.fuel c.in_ok-runner.runner f c.in_ok-alone.field-0
          c.in_ok-alone.ensures,
    )
