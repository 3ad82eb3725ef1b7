-- Answers of repeat_code: the setting's code is that with which the memo was recorded, so its entries are used.
use Rattle.std.proofs.Common.{◌∙◌, sym, subst}
use Rattle.code_machine.specs.Local.{CodeRun}
use Rattle.code_machine_laws.specs.Outcomes.{HasOutcome}
use Rattle.rev_code.specs.declared.code.Code.{Code}
use Rattle.rev_vm.specs.Starts.{run_under}
use Rattle.code_runs.proofs.WorldsAndRuns.{of_run}
use Rattle.rev_record.specs.Memos.{HasEntries, Reuses}
use Rattle.rev_record.proofs.repeats.repeat_code.Goals as goal

pub new-requires-clause-inputs : goal.new-requires-clause-inputs
new-requires-clause-inputs c = c.note_inputs.ensures

pub repeat-requires-clause-memo : goal.repeat-requires-clause-memo
repeat-requires-clause-memo c =
    let same = c.in_ok-setting.ensures.code ∙ c.into_code.ensures.code in (
      c.requires.memo.0,
      subst (λ (x : Code). HasEntries x c.args.memo.now c.requires.memo.0) (sym same) c.requires.memo.1,
    )

pub repeat-requires-clause-merges : goal.repeat-requires-clause-merges
repeat-requires-clause-merges c =
    c.in_ok-merges.ensures.merges (run_under c.in_ok-setting.setting) (sym c.code.ensures.code)

pub outcome_after-requires : goal.outcome_after-requires
outcome_after-requires c = record { over = (c.args.fuel, c.in_ok-world.ensures.world) }

pub returns-clause-outcome : goal.returns-clause-outcome
returns-clause-outcome c =
    let s = c.in_ok-setting.ensures in
    let own = c.in_ok-setting.setting in
    of_run (λ (g : CodeRun). HasOutcome g c.args.fuel c.in_ok-outcome.outcome)
    c.args.code.code own.code c.args.inputs.items own.inputs.items c.args.share own.share
    (s.code ∙ c.into_code.ensures.code) s.inputs s.share
    (c.in_ok-outcome.ensures c.args.fuel c.in_ok-world.ensures.world)

pub returns-clause-reused : goal.returns-clause-reused
returns-clause-reused c = λ es known.
    let s = c.in_ok-setting.ensures in
    let own = c.in_ok-setting.setting in
    let same = s.code ∙ c.into_code.ensures.code in
    of_run (λ (g : CodeRun). Reuses g c.args.fuel es c.in_ok-world.reused)
    c.args.code.code own.code c.args.inputs.items own.inputs.items c.args.share own.share
    same s.inputs s.share
    (c.in_ok-world.ensures.count es (subst (λ (x : Code). HasEntries x c.args.memo.now es) (sym same) known))
