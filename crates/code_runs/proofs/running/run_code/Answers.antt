-- Answers of run_code: the world at the start is underway, and complete takes it to the outcome of all schedules.
use Rattle.std.proofs.Common.{◌∙◌, sym}
use Rattle.code_machine.specs.Local.{CodeRun}
use Rattle.code_machine_laws.specs.Outcomes.{HasOutcome}
use Rattle.rev_vm.specs.Starts.{run_under}
use Rattle.code_runs.proofs.WorldsAndRuns.{begun, of_run}
use Rattle.code_runs.proofs.running.run_code.Goals as goal

pub new-requires-clause-inputs : goal.new-requires-clause-inputs
new-requires-clause-inputs c = c.note_inputs.ensures

pub complete-requires-clause-underway : goal.complete-requires-clause-underway
complete-requires-clause-underway c =
    let b = c.in_ok-start.ensures.begun in
    (c.args.fuel, begun (run_under c.in_ok-setting.setting) c.args.fuel b.0 b.1 c.requires c.in_ok-start.start b.2)

pub complete-requires-clause-merges : goal.complete-requires-clause-merges
complete-requires-clause-merges c =
    c.in_ok-merges.ensures.merges (run_under c.in_ok-setting.setting) (sym c.code.ensures.code)

pub returns : goal.returns
returns c =
    let b = c.in_ok-start.ensures.begun in
    let s = c.in_ok-setting.ensures in
    let own = c.in_ok-setting.setting in
    of_run (λ (g : CodeRun). HasOutcome g c.args.fuel c.in_ok-outcome.outcome)
    c.args.code.code own.code c.args.inputs.items own.inputs.items c.args.share own.share
    (s.code ∙ c.into_code.ensures.code) s.inputs s.share
    (c.in_ok-outcome.ensures c.args.fuel (begun (run_under own) c.args.fuel b.0 b.1 c.requires c.in_ok-start.start b.2))
