-- Answers of record_code: the setting is made of this code, these inputs and this share, so the run kept is theirs.
use Rattle.std.proofs.Common.{◌∙◌, ◌<◌, ◌^◌, sym, subst, List, length}
use Rattle.std.specs.Prelude.{ℤ}
use Rattle.code_machine.specs.Local.{CodeRun}
use Rattle.rev_vm.specs.Starts.{run_under}
use Rattle.code_runs.proofs.WorldsAndRuns.{of_run}
use Rattle.rev_record.specs.Memos.{IsMemoOf}
use Rattle.rev_record.proofs.repeats.record_code.Goals as goal

pub new-requires-clause-inputs : goal.new-requires-clause-inputs
new-requires-clause-inputs c = c.note_inputs.ensures

pub record_run-requires-clause-inputs : goal.record_run-requires-clause-inputs
record_run-requires-clause-inputs c =
    subst (λ (zs : List ℤ). length zs < 2 ^ 32) (sym c.in_ok-setting.ensures.inputs) c.requires.inputs

pub record_run-requires-clause-merges : goal.record_run-requires-clause-merges
record_run-requires-clause-merges c =
    c.in_ok-merges.ensures.merges (run_under c.in_ok-setting.setting) (sym c.code.ensures.code)

pub returns : goal.returns
returns c =
    let s = c.in_ok-setting.ensures in
    let own = c.in_ok-setting.setting in
    of_run (λ (g : CodeRun). IsMemoOf g c.args.fuel c.in_ok-world.memo)
    c.args.code.code own.code c.args.inputs.items own.inputs.items c.args.share own.share
    (s.code ∙ c.into_code.ensures.code) s.inputs s.share c.in_ok-world.ensures.memo
