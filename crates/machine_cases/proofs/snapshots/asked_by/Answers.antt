-- Answers of asked_by: code without variables has no word at its start, so nothing is asked of the snapshot's base.
use Rattle.std.proofs.Common.{◌≡◌, ◌∙◌, Some, None, sym, ap}
use Rattle.std.specs.Prelude.{slice_get}
use Rattle.rev_vm.specs.Opening.{words_at_start}
use Rattle.rev_vm.specs.Starts.{run_under}
use Rattle.machine_cases.proofs.snapshots.asked_by.Goals as goal

pub start_main-requires-clause-base : goal.start_main-requires-clause-base
start_main-requires-clause-base c = λ l w is.
    let z : None ≡ Some w = sym (ap (λ vs. slice_get (words_at_start vs) l) c.requires.none) ∙ is in absurd cc

pub run_to_end-requires-clause-merges : goal.run_to_end-requires-clause-merges
run_to_end-requires-clause-merges c =
    c.in_ok-merges.ensures.merges (run_under c.args.setting.now) (sym c.code.ensures.code)
