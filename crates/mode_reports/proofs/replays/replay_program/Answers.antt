-- Answers of replay_program: the outcome after a legal schedule is written, and one that is not legal is refused.
use Rattle.std.proofs.Common.{◌∙◌}
use Rattle.rev_syntax.specs.View.{program as whole}
use Rattle.mode_reports.proofs.Replaying.{is_refused, is_written}
use Rattle.mode_reports.proofs.replays.replay_program.Goals as goal

pub returns-in_ok-outcome_bytes-in-Ok : goal.returns-in_ok-outcome_bytes-in-Ok
returns-in_ok-outcome_bytes-in-Ok c =
    let t = c.args.typed.now in
    is_written c.args.words.now (whole t.expanded.program) c.in_ok-code.code.code c.in_ok-numbers.numbers.items
    c.as_slice-schedule.result.now
    c.in_ok-code.ensures (c.in_ok-numbers.ensures.items ∙ c.as_slice.ensures) c.as_slice-schedule.ensures
    (record { small = t.expanded.small; funs = t.expanded.keeps_rules; rules = t.well_typed })
    c.in-Ok.outcome _ c.in-Ok.ensures.legal c.in-Ok.ensures.outcome c.in_ok-outcome_bytes-in-Ok.ensures

pub returns-in-Err : goal.returns-in-Err
returns-in-Err c =
    is_refused c.args.words.now (whole c.args.typed.now.expanded.program) c.in_ok-code.code.code
    c.in_ok-numbers.numbers.items c.as_slice-schedule.result.now
    c.in_ok-code.ensures (c.in_ok-numbers.ensures.items ∙ c.as_slice.ensures) c.as_slice-schedule.ensures
    c.in-Err.fault c.of_replay.result c.of_replay.ensures c.in-Err.ensures.fault
