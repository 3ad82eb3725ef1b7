-- Answers of two_runs: the merges are those of the code, and the first run leaves them so for the second.
use Rattle.std.proofs.Common.{subst, sym}
use Rattle.fun_run.specs.Merging.{AreMergesOf}
use Rattle.rev_vm.specs.Starts.{run_under}
use Rattle.machine_cases.proofs.wants.two_runs.Goals as goal

pub comes_to-first-requires-clause-merges : goal.comes_to-first-requires-clause-merges
comes_to-first-requires-clause-merges c =
    c.in_ok-merges.ensures.merges (run_under c.in-Some.setting) (sym c.code-program.ensures.code)

pub comes_to-requires-clause-merges : goal.comes_to-requires-clause-merges
comes_to-requires-clause-merges c =
    subst (λ ms. AreMergesOf (run_under c.in-Some.setting) ms) (sym c.comes_to-first.ensures.merges_same)
    (c.in_ok-merges.ensures.merges (run_under c.in-Some.setting) (sym c.code-program.ensures.code))
