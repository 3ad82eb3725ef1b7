-- Loops of run_to_end: the revision goes on or has ended as the code says, and the merges are those at first.
use Rattle.std.proofs.Common.{◌≡◌}
use Rattle.block_run.specs.Area.{count}
use Rattle.fun_run.specs.Merging.{AreMergesOf}
use Rattle.rev_vm.specs.Starts.{run_under}
use Rattle.machine_cases.specs.Driving.{Goes}
use Rattle.machine_cases.proofs.driver.run_to_end.Given as goal

abbrev pub invariant-loop-number : goal.invariant-loop-number
invariant-loop-number g l = record {
  goes : Goes (run_under l.fn.setting) l.now;
  size : g.M.MergeBy.size l.merges ≡ count l.fn.setting.code.vars;
  merges : AreMergesOf (run_under l.fn.setting) (g.M.MergeBy.merges l.merges);
  merges_size : g.M.MergeBy.size l.merges ≡ g.M.MergeBy.size l.initial.merges;
  merges_same : g.M.MergeBy.merges l.merges ≡ g.M.MergeBy.merges l.initial.merges;
}
