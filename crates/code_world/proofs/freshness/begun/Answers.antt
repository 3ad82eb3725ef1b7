-- `begun`: with what a fresh runner began.
use Rattle.std.proofs.Common.{◌∙◌, ap, sym, subst}
use Rattle.rev_code.specs.State.{State}
use Rattle.block_run.specs.Agreement.{AreWords}
use Rattle.rev_vm.specs.Starts.{run_under}
use Rattle.code_world.proofs.freshness.begun.Goals as goal

pub args-given-requires : goal.args-given-requires
args-given-requires c = c.requires

pub returns : goal.returns
returns c = λ s f runs fresh. record {
  block = c.block-block.ensures (run_under c.args.setting.now) s runs ∙ ap (λ (z : State _). z.block) fresh.state;
  args = subst (AreWords f.args) (sym c.in_ok-args.ensures.items) (c.args-given.ensures s f runs fresh);
  base = c.in_ok-base.ensures (run_under c.args.setting.now) s f runs fresh;
  fuel = c.fuel-fuel.ensures (run_under c.args.setting.now) s runs ∙ ap (λ (z : State _). z.fuel) fresh.state;
}
