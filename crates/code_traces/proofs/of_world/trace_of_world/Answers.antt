-- Answers of trace_of_world: a live world with no leg left has ended revisions with notes, and Twice has no trace.
use Rattle.revision_machine.specs.Numbered.{paths_of}
use Rattle.rev_vm.specs.Starts.{run_under}
use Rattle.code_traces.proofs.Tracing.{distinct_in, ended_in, noted_in, none_in, over_in, stands_in, there, trace_in}
use Rattle.code_traces.proofs.of_world.trace_of_world.Goals as goal

pub trace_of-requires-clause-names : goal.trace_of-requires-clause-names
trace_of-requires-clause-names c =
    let q = c.requires in
    let s = run_under c.args.setting.now in
    let ok = c.args.setting.now.faultless in
    let x = there s ok c.args.world.now c.in-Live.field-0 c.in-Live.is q.0 q.1 q.2 q.3 c.args.notes.items q.4 in (
      paths_of x.0,
      c.births.ensures s x.0
          (stands_in s ok c.args.world.now c.in-Live.field-0 c.in-Live.is q.0 q.1 q.2 q.3 c.args.notes.items q.4),
    )

pub trace_of-requires-clause-ended : goal.trace_of-requires-clause-ended
trace_of-requires-clause-ended c =
    let q = c.requires in
    ended_in (run_under c.args.setting.now) c.args.setting.now.faultless c.args.world.now c.in-Live.field-0 c.in-Live.is
    q.0 q.1 q.2 q.3 c.args.notes.items q.4

pub returns-in-Twice : goal.returns-in-Twice
returns-in-Twice c = λ w h is over noted. none_in (run_under c.args.setting.now) c.args.world.now w c.in-Twice.is is

pub returns-in_ok-trace-in-Live : goal.returns-in_ok-trace-in-Live
returns-in_ok-trace-in-Live c = λ w h is over noted.
    let s = run_under c.args.setting.now in
    let ok = c.args.setting.now.faultless in
    let v = c.args.world.now in
    let t = c.in-Live.field-0 in
    let e = c.in-Live.is in
    let ns = c.args.notes.items in
    let x = there s ok v t e w h is over ns noted in
    trace_in s ok v t e w h is over ns noted c.in_ok-trace-in-Live.trace
    (c.in_ok-trace-in-Live.ensures x.0 (c.births.ensures s x.0 (stands_in s ok v t e w h is over ns noted))
    (noted_in s ok v t e w h is over ns noted) (over_in s ok v t e w h is over ns noted)
    (distinct_in s ok v t e w h is over ns noted))
