-- What a schedule is for code: legal, with the world after it, or at fault; and how the fault is reported.
use Rattle.std.specs.Prelude.{ℕ, List, Option, Some, None, Result, Ok, Err}
use Rattle.revision_machine.specs.Numbered.{World}
use Rattle.code_machine.specs.Local.{CodeRun, Local}
use Rattle.world_runs.specs.Replay.{IsIllegal, Replayed}
use Rattle.world_runs.specs.declared.replaying.ReplayFault.{ReplayFault}
use Rattle.world_runs.specs.declared.replaying.ReplayFault.TheVariants as faults
use Rattle.rev_report.specs.declared.refusal.Refusal.{Refusal}
use Rattle.rev_report.specs.declared.refusal.Refusal.TheVariants as refusals
use Rattle.mode_reports.specs.Stages.{Reports}

-- want of memory is no fault of a schedule
abbrev pub report_of_replay : ReplayFault → Option Refusal
report_of_replay (faults.Illegal at revision) = Some (refusals.Schedule at revision)
report_of_replay faults.OutOfMemory = None

-- the world after the legs of the schedule, one for each entry, or the first entry that has none
abbrev pub ReplaysCode : CodeRun → (fuel : ℕ) → (schedule : List ℕ) → Result (World (Local ℕ)) Refusal → Type 0
ReplaysCode g fuel ns (Ok w) = Replayed g fuel ns w
ReplaysCode g fuel ns (Err r) = Reports (IsIllegal g fuel ns) report_of_replay r
