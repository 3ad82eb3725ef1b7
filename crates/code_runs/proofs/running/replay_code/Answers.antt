-- Answers of replay_code: replay comes to the world of a legal schedule, which is finished, or refuses an entry.
use Rattle.std.proofs.Common.{◌∙◌, sym}
use Rattle.code_machine.specs.Local.{CodeRun}
use Rattle.code_machine_laws.specs.Outcomes.{HasOutcome}
use Rattle.rev_vm.specs.Starts.{run_under}
use Rattle.world_runs.specs.Replay.{IsIllegal}
use Rattle.world_runs.specs.declared.replaying.ReplayFault.{ReplayFault}
use Rattle.world_runs.proofs.Making.{merges_still}
use Rattle.code_runs.specs.Schedules.{IsLegal}
use Rattle.code_runs.proofs.WorldsAndRuns.{handed_on, of_run, replayed_to}
use Rattle.code_runs.proofs.running.replay_code.Goals as goal

pub new-requires-clause-inputs : goal.new-requires-clause-inputs
new-requires-clause-inputs c = c.note_inputs.ensures

pub replay-requires-clause-merges : goal.replay-requires-clause-merges
replay-requires-clause-merges c =
    c.in_ok-merges.ensures.merges (run_under c.in_ok-setting.setting) (sym c.code.ensures.code)

pub complete-requires-clause-underway : goal.complete-requires-clause-underway
complete-requires-clause-underway c =
    let r = c.in_ok-world.ensures.ok in (
      c.args.fuel,
      replayed_to (run_under c.in_ok-setting.setting) c.args.fuel c.requires c.args.schedule.now r.0 r.1
          c.in_ok-world.world r.3,
    )

pub complete-requires-clause-merges : goal.complete-requires-clause-merges
complete-requires-clause-merges c =
    let own = run_under c.in_ok-setting.setting in
    merges_still own _ _ c.in_ok-world.ensures.same (c.in_ok-merges.ensures.merges own (sym c.code.ensures.code))

pub returns-clause-legal : goal.returns-clause-legal
returns-clause-legal c =
    let s = c.in_ok-setting.ensures in
    let own = c.in_ok-setting.setting in
    let r = c.in_ok-world.ensures.ok in
    of_run (λ (g : CodeRun). IsLegal g c.args.fuel c.args.schedule.now)
    c.args.code.code own.code c.args.inputs.items own.inputs.items c.args.share own.share
    (s.code ∙ c.into_code.ensures.code) s.inputs s.share (r.0, r.1)

pub returns-clause-outcome : goal.returns-clause-outcome
returns-clause-outcome c =
    let s = c.in_ok-setting.ensures in
    let own = c.in_ok-setting.setting in
    let r = c.in_ok-world.ensures.ok in
    of_run (λ (g : CodeRun). HasOutcome g c.args.fuel c.in_ok-outcome.outcome)
    c.args.code.code own.code c.args.inputs.items own.inputs.items c.args.share own.share
    (s.code ∙ c.into_code.ensures.code) s.inputs s.share
    (c.in_ok-outcome.ensures c.args.fuel
    (replayed_to (run_under own) c.args.fuel c.requires c.args.schedule.now r.0 r.1 c.in_ok-world.world r.3))

pub returns-in_err-world-clause-fault : goal.returns-in_err-world-clause-fault
returns-in_err-world-clause-fault c =
    let s = c.in_ok-setting.ensures in
    let own = c.in_ok-setting.setting in
    let given : CodeRun = record { code = c.args.code.code; inputs = c.args.inputs.items; share = c.args.share } in
    handed_on c.from_residual-in_err-world.result c.in_err-world.field-0.0 c.from_residual-in_err-world.ensures.1
    (λ (f : ReplayFault). IsIllegal given c.args.fuel c.args.schedule.now f)
    (of_run (λ (g : CodeRun). IsIllegal g c.args.fuel c.args.schedule.now c.in_err-world.field-0.0)
    c.args.code.code own.code c.args.inputs.items own.inputs.items c.args.share own.share
    (s.code ∙ c.into_code.ensures.code) s.inputs s.share c.in_err-world.ensures.fault)
