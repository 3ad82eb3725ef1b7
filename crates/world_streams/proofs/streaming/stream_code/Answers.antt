-- Answers of stream_code: the setting is made of this code, inputs and share, and so never joins twice.
use Rattle.std.proofs.Common.{◌∙◌, sym, Ok, Err}
use Rattle.code_machine.specs.Local.{CodeRun}
use Rattle.rev_vm.specs.Starts.{run_under}
use Rattle.code_runs.proofs.WorldsAndRuns.{of_run}
use Rattle.code_machine_laws.specs.Texts.{NeverJoinsTwice}
use Rattle.world_streams.specs.Streamed.{Streamed}
use Rattle.world_streams.specs.declared.fault.StreamFault.TheVariants as fault
use Rattle.world_streams.proofs.Ending.{after_run, cut, ended, faults, first_reached, handed_on, never_from, untouched}
use Rattle.world_streams.proofs.streaming.stream_code.Goals as goal

pub new-requires-clause-inputs : goal.new-requires-clause-inputs
new-requires-clause-inputs g c = c.note_inputs.ensures

-- what is asked of the code holds of the setting
pub stream-requires-clause-reached : goal.stream-requires-clause-reached
stream-requires-clause-reached g c =
    let b = c.in_ok-start.ensures.begun in
    let s = c.in_ok-setting.ensures in
    let own = c.in_ok-setting.setting in
    let never : NeverJoinsTwice (run_under own) c.args.fuel =
    of_run (λ (r : CodeRun). NeverJoinsTwice r c.args.fuel) own.code c.args.code.code own.inputs.items
    c.args.inputs.items own.share c.args.share
    (sym (s.code ∙ c.into_code.ensures.code)) (sym s.inputs) (sym s.share) c.requires.never in
    let first = first_reached (run_under own) own.faultless b.0 b.1 c.args.fuel c.requires.few never in
    let from = never_from (run_under own) own.faultless b.0 b.1 c.args.fuel c.requires.few never in
    (_, first, b.2, from)

pub stream-requires-clause-merges : goal.stream-requires-clause-merges
stream-requires-clause-merges g c =
    c.in_ok-merges.ensures.merges (run_under c.in_ok-setting.setting) (sym c.code.ensures.code)

pub returns-in_err-setting : goal.returns-in_err-setting
returns-in_err-setting g c =
    let given : CodeRun = record { code = c.args.code.code; inputs = c.args.inputs.items; share = c.args.share } in
    handed_on given c.args.fuel (g.O.Sink.stream c.args.out.now) (g.O.Sink.stream c.args.out.now) c.from_residual.result
    fault.OutOfMemory c.from_residual.ensures.1 (untouched given c.args.fuel (g.O.Sink.stream c.args.out.now))

pub returns-in_err-merges : goal.returns-in_err-merges
returns-in_err-merges g c =
    let given : CodeRun = record { code = c.args.code.code; inputs = c.args.inputs.items; share = c.args.share } in
    handed_on given c.args.fuel (g.O.Sink.stream c.args.out.now) (g.O.Sink.stream c.args.out.now)
    c.from_residual-in_err-merges.result fault.OutOfMemory c.from_residual-in_err-merges.ensures.1
    (untouched given c.args.fuel (g.O.Sink.stream c.args.out.now))

pub returns-in_err-start : goal.returns-in_err-start
returns-in_err-start g c =
    let given : CodeRun = record { code = c.args.code.code; inputs = c.args.inputs.items; share = c.args.share } in
    handed_on given c.args.fuel (g.O.Sink.stream c.args.out.now) (g.O.Sink.stream c.args.out.now)
    c.from_residual-in_err-start.result fault.OutOfMemory c.from_residual-in_err-start.ensures.1
    (untouched given c.args.fuel (g.O.Sink.stream c.args.out.now))

pub returns-in_err-end : goal.returns-in_err-end
returns-in_err-end g c =
    let b = c.in_ok-start.ensures.begun in
    let s = c.in_ok-setting.ensures in
    let own = c.in_ok-setting.setting in
    let never : NeverJoinsTwice (run_under own) c.args.fuel =
    of_run (λ (r : CodeRun). NeverJoinsTwice r c.args.fuel) own.code c.args.code.code own.inputs.items
    c.args.inputs.items own.share c.args.share
    (sym (s.code ∙ c.into_code.ensures.code)) (sym s.inputs) (sym s.share) c.requires.never in
    let first = first_reached (run_under own) own.faultless b.0 b.1 c.args.fuel c.requires.few never in
    let from = never_from (run_under own) own.faultless b.0 b.1 c.args.fuel c.requires.few never in
    let given : CodeRun = record { code = c.args.code.code; inputs = c.args.inputs.items; share = c.args.share } in
    handed_on given c.args.fuel (g.O.Sink.stream c.args.out.now) (g.O.Sink.stream c.stream.new.out)
    c.from_residual-in_err-end.result c.in_err-end.field-0.0 c.from_residual-in_err-end.ensures.1
    (of_run (λ (r : CodeRun).
    Streamed r c.args.fuel (g.O.Sink.stream c.args.out.now) (g.O.Sink.stream c.stream.new.out)
    (Err c.in_err-end.field-0.0))
    c.args.code.code own.code c.args.inputs.items own.inputs.items c.args.share own.share
    (s.code ∙ c.into_code.ensures.code) s.inputs s.share
    (faults (run_under own) own.faultless b.0 b.1 c.args.fuel c.requires.few never c.in_ok-start.start
    c.in_ok-start.ensures.silent (g.O.Sink.stream c.args.out.now) (g.O.Sink.stream c.stream.new.out)
    c.in_err-end.field-0.0
    (c.in_err-end.ensures.put _ first b.2 from)))

pub outcome_after-requires : goal.outcome_after-requires
outcome_after-requires g c =
    let b = c.in_ok-start.ensures.begun in
    let s = c.in_ok-setting.ensures in
    let own = c.in_ok-setting.setting in
    let never : NeverJoinsTwice (run_under own) c.args.fuel =
    of_run (λ (r : CodeRun). NeverJoinsTwice r c.args.fuel) own.code c.args.code.code own.inputs.items
    c.args.inputs.items own.share c.args.share
    (sym (s.code ∙ c.into_code.ensures.code)) (sym s.inputs) (sym s.share) c.requires.never in
    let first = first_reached (run_under own) own.faultless b.0 b.1 c.args.fuel c.requires.few never in
    let from = never_from (run_under own) own.faultless b.0 b.1 c.args.fuel c.requires.few never in
    record {
      over = (
        c.args.fuel,
        after_run (run_under own) b.0 b.1 c.args.fuel c.requires.few c.in_ok-end.end
            (c.in_ok-end.ensures.finished _ first b.2 from),
      );
    }

pub returns-in_err-outcome : goal.returns-in_err-outcome
returns-in_err-outcome g c =
    let b = c.in_ok-start.ensures.begun in
    let s = c.in_ok-setting.ensures in
    let own = c.in_ok-setting.setting in
    let never : NeverJoinsTwice (run_under own) c.args.fuel =
    of_run (λ (r : CodeRun). NeverJoinsTwice r c.args.fuel) own.code c.args.code.code own.inputs.items
    c.args.inputs.items own.share c.args.share
    (sym (s.code ∙ c.into_code.ensures.code)) (sym s.inputs) (sym s.share) c.requires.never in
    let first = first_reached (run_under own) own.faultless b.0 b.1 c.args.fuel c.requires.few never in
    let from = never_from (run_under own) own.faultless b.0 b.1 c.args.fuel c.requires.few never in
    let given : CodeRun = record { code = c.args.code.code; inputs = c.args.inputs.items; share = c.args.share } in
    handed_on given c.args.fuel (g.O.Sink.stream c.args.out.now) (g.O.Sink.stream c.stream.new.out)
    c.from_residual-in_err-outcome.result fault.OutOfMemory c.from_residual-in_err-outcome.ensures.1
    (of_run (λ (r : CodeRun).
    Streamed r c.args.fuel (g.O.Sink.stream c.args.out.now) (g.O.Sink.stream c.stream.new.out) (Err fault.OutOfMemory))
    c.args.code.code own.code c.args.inputs.items own.inputs.items c.args.share own.share
    (s.code ∙ c.into_code.ensures.code) s.inputs s.share
    (cut (run_under own) own.faultless b.0 b.1 c.args.fuel c.requires.few never c.in_ok-start.start
    c.in_ok-start.ensures.silent (g.O.Sink.stream c.args.out.now) (g.O.Sink.stream c.stream.new.out) c.in_ok-end.end
    (c.in_ok-end.ensures.put _ first b.2 from) (c.in_ok-end.ensures.finished _ first b.2 from)))

pub returns : goal.returns
returns g c =
    let b = c.in_ok-start.ensures.begun in
    let s = c.in_ok-setting.ensures in
    let own = c.in_ok-setting.setting in
    let never : NeverJoinsTwice (run_under own) c.args.fuel =
    of_run (λ (r : CodeRun). NeverJoinsTwice r c.args.fuel) own.code c.args.code.code own.inputs.items
    c.args.inputs.items own.share c.args.share
    (sym (s.code ∙ c.into_code.ensures.code)) (sym s.inputs) (sym s.share) c.requires.never in
    let first = first_reached (run_under own) own.faultless b.0 b.1 c.args.fuel c.requires.few never in
    let from = never_from (run_under own) own.faultless b.0 b.1 c.args.fuel c.requires.few never in
    of_run (λ (r : CodeRun).
    Streamed r c.args.fuel (g.O.Sink.stream c.args.out.now) (g.O.Sink.stream c.stream.new.out)
    (Ok c.in_ok-outcome.outcome))
    c.args.code.code own.code c.args.inputs.items own.inputs.items c.args.share own.share
    (s.code ∙ c.into_code.ensures.code) s.inputs s.share
    (ended (run_under own) own.faultless b.0 b.1 c.args.fuel c.requires.few never c.in_ok-start.start
    c.in_ok-start.ensures.silent (g.O.Sink.stream c.args.out.now) (g.O.Sink.stream c.stream.new.out) c.in_ok-end.end
    (c.in_ok-end.ensures.put _ first b.2 from) (c.in_ok-end.ensures.finished _ first b.2 from) c.in_ok-outcome.outcome
    (c.in_ok-outcome.ensures c.args.fuel
    (after_run (run_under own) b.0 b.1 c.args.fuel c.requires.few c.in_ok-end.end
    (c.in_ok-end.ensures.finished _ first b.2 from))))
