-- Answers of first_runner: the start words fit the variables, so main begins with them and with its fuel.
use Rattle.std.proofs.Common.{◌∙◌, ap, subst}
use Rattle.rev_code.specs.declared.code.Code.{Code}
use Rattle.version_map.specs.contracts.whole.WholeSnapshot.TheImpl.{ghosts}
use Rattle.block_run.specs.Area.{count}
use Rattle.rev_vm.specs.Opening.{StartsWith}
use Rattle.rev_vm.specs.Starts.{run_under}
use Rattle.code_world.proofs.Beginning.{main, main_number}
use Rattle.code_world.proofs.starting.first_runner.Goals as goal

pub start_main-requires-clause-size : goal.start_main-requires-clause-size
start_main-requires-clause-size c = c.in_ok-words.ensures.size ∙ ap (λ (z : Code). count z.vars) c.code.ensures.code

pub start_main-requires-clause-base : goal.start_main-requires-clause-base
start_main-requires-clause-base c =
    subst (λ (z : Code). StartsWith z.vars (ghosts.base c.in_ok-words.words)) c.code.ensures.code
    c.in_ok-words.ensures.base

pub returns-in-Ok : goal.returns-in-Ok
returns-in-Ok c =
    let s = run_under c.args.setting.now in
    record {
      number = main_number s c.args.setting.now.faultless;
      main = main s c.args.setting.now.faultless;
      runs = c.in-Ok.ensures.state (main_number s c.args.setting.now.faultless) (main s c.args.setting.now.faultless);
    }
