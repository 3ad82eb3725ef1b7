-- Answers of run_to_end: each turn goes on from where the last one left the revision, and no turn changes the merges.
use Rattle.std.proofs.Common.{◌∙◌, sym, subst}
use Rattle.fun_run.specs.Merging.{AreMergesOf}
use Rattle.rev_vm.specs.Starts.{run_under}
use Rattle.machine_cases.proofs.driver.run_to_end.Goals as goal

pub loop-number-preserved : goal.loop-number-preserved
loop-number-preserved g c = record {
  goes = c.in_ok-now-in-Goes.ensures.turn;
  size = c.go_on.ensures.merges_size ∙ c.loop-number.invariant.size;
  merges = subst (λ ms. AreMergesOf (run_under c.args.setting.now) ms) (sym c.go_on.ensures.merges_same)
      c.loop-number.invariant.merges;
  merges_size = c.go_on.ensures.merges_size ∙ c.loop-number.invariant.merges_size;
  merges_same = c.go_on.ensures.merges_same ∙ c.loop-number.invariant.merges_same;
}
