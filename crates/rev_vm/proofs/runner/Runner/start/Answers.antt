-- Answers of Runner::start: what it begins with stands for the block's first state.
use Rattle.std.proofs.Common.{refl, sym, subst}
use Rattle.rev_code.specs.Events as events
use Rattle.rev_vm.specs.Starts.{IsCalled, run_under}
use Rattle.rev_vm.proofs.runner.Runner.start.Goals as goal

pub returns-in-Ok-born-clause-state : goal.returns-in-Ok-born-clause-state
returns-in-Ok-born-clause-state g c = λ b xs ls k base.
    let own = run_under c.args.setting.now in
    c.in-Ok-born.ensures.state own (events.start c.args.block b xs ls c.args.fuel) (record {
      verified = c.args.setting.now.faultless;
      body = b;
      args = xs;
      locations = ls;
      called = subst (IsCalled own c.args.block b xs) (sym c.in-Ok.ensures.items) k;
      based = base;
      many = c.requires.size;
      is = refl;
    })
