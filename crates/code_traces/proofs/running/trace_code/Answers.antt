-- Answers of trace_code: the start has its first notes, and finishing it with them gives outcome and trace.
use Rattle.std.proofs.Common.{◌≡◌, ◌∙◌, sym}
use Rattle.revision_machine.specs.Numbered.{begin}
use Rattle.code_machine.specs.Local.{CodeRun}
use Rattle.code_machine.specs.Machines.{numbered, start_in}
use Rattle.code_machine_laws.proofs.Reaching.{start_reached}
use Rattle.rev_vm.specs.Starts.{run_under}
use Rattle.code_machine_laws.specs.Outcomes.{HasOutcome}
use Rattle.code_runs.proofs.WorldsAndRuns.{of_run}
use Rattle.code_traces.proofs.Tracing.{noted_after, trace_of_run}
use Rattle.code_traces.proofs.running.trace_code.Goals as goal

pub new-requires-clause-inputs : goal.new-requires-clause-inputs
new-requires-clause-inputs c = c.note_inputs.ensures

pub finish_noting-requires-clause-reached : goal.finish_noting-requires-clause-reached
finish_noting-requires-clause-reached c =
    let g = run_under c.in_ok-setting.setting in
    let b = c.in_ok-start.ensures.begun in (
      begin (numbered g) (start_in g b.0 b.1.body c.args.fuel),
      start_reached g b.0 b.1 c.args.fuel c.requires,
      b.2,
      c.in_ok-notes.ensures g c.args.fuel b.0 b.1,
    )

pub finish_noting-requires-clause-merges : goal.finish_noting-requires-clause-merges
finish_noting-requires-clause-merges c =
    c.in_ok-merges.ensures.merges (run_under c.in_ok-setting.setting) (sym c.code.ensures.code)

pub traced_after-requires : goal.traced_after-requires
traced_after-requires c =
    let g = run_under c.in_ok-setting.setting in
    let b = c.in_ok-start.ensures.begun in
    let main = start_in g b.0 b.1.body c.args.fuel in
    let f = c.in_ok-end.ensures.finished (begin (numbered g) main) (start_reached g b.0 b.1 c.args.fuel c.requires) b.2
    (c.in_ok-notes.ensures g c.args.fuel b.0 b.1) in
    record {
      over = (
        c.args.fuel,
        noted_after g c.args.fuel b.0 b.1 c.requires c.in_ok-end.end c.finish_noting.new.notes.items f,
      );
    }

pub returns-clause-outcome : goal.returns-clause-outcome
returns-clause-outcome c =
    let g = run_under c.in_ok-setting.setting in
    let b = c.in_ok-start.ensures.begun in
    let main = start_in g b.0 b.1.body c.args.fuel in
    let f = c.in_ok-end.ensures.finished (begin (numbered g) main) (start_reached g b.0 b.1 c.args.fuel c.requires) b.2
    (c.in_ok-notes.ensures g c.args.fuel b.0 b.1) in
    let a = noted_after g c.args.fuel b.0 b.1 c.requires c.in_ok-end.end c.finish_noting.new.notes.items f in
    let s = c.in_ok-setting.ensures in
    of_run (λ (r : CodeRun). HasOutcome r c.args.fuel c.in_ok-run.run'.outcome)
    c.args.code.code c.in_ok-setting.setting.code c.args.inputs.items c.in_ok-setting.setting.inputs.items c.args.share
    c.in_ok-setting.setting.share
    (s.code ∙ c.into_code.ensures.code) s.inputs s.share (c.in_ok-run.ensures.outcome c.args.fuel a)

pub returns-clause-trace : goal.returns-clause-trace
returns-clause-trace c =
    let g = run_under c.in_ok-setting.setting in
    let b = c.in_ok-start.ensures.begun in
    let main = start_in g b.0 b.1.body c.args.fuel in
    let f = c.in_ok-end.ensures.finished (begin (numbered g) main) (start_reached g b.0 b.1 c.args.fuel c.requires) b.2
    (c.in_ok-notes.ensures g c.args.fuel b.0 b.1) in
    let a = noted_after g c.args.fuel b.0 b.1 c.requires c.in_ok-end.end c.finish_noting.new.notes.items f in
    let s = c.in_ok-setting.ensures in
    let code = s.code ∙ c.into_code.ensures.code in
    let inputs = s.inputs in
    let share = s.share in
    let same :
    ◌≡◌ {A = CodeRun} g (record { code = c.args.code.code; inputs = c.args.inputs.items; share = c.args.share }) =
    (λ i. record { code = code i; inputs = inputs i; share = share i }) in
    trace_of_run g _ c.args.fuel c.in_ok-run.run'.trace same (c.in_ok-run.ensures.trace c.args.fuel a)
