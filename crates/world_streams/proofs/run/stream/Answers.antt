-- Answers of stream: the sink has gained nothing at the start, and behind each leg what the text of `main` has gained.
use Rattle.std.proofs.Common.{ap, rules}
use Rattle.rev_vm.specs.Starts.{run_under}
use Rattle.world_streams.proofs.Legs.{ends, since_none, stops}
use Rattle.world_streams.proofs.run.stream.Goals as goal

pub finish_by-requires-clause-reached : goal.finish_by-requires-clause-reached
finish_by-requires-clause-reached g c =
    let q = c.requires.reached in
    let out = c.new-streamer.result.out in (
      q.0,
      q.1,
      q.2,
      record { first = q.0; stood = c.args.world; out = out },
      since_none g.O.Sink.stream (run_under c.args.setting.now) q.0 c.args.world out q.3,
    )

pub returns-clause-finished : goal.returns-clause-finished
returns-clause-finished g c = λ w h is never.
    let out = c.new-streamer.result.out in
    (c.in_ok-end.ensures.finished w h is (record { first = w; stood = c.args.world; out = out })
    (since_none g.O.Sink.stream (run_under c.args.setting.now) w c.args.world out never)).finished

pub returns-clause-put : goal.returns-clause-put
returns-clause-put g c = λ w h is never.
    let s = run_under c.args.setting.now in
    let out = c.new-streamer.result.out in
    let f = c.in_ok-end.ensures.finished w h is (record { first = w; stood = c.args.world; out = out })
    (since_none g.O.Sink.stream s w c.args.world out never) in
    let same = f.kept.same in
    ends g.O.Sink.stream s _ f.finished.end c.in_ok-end.end c.finish_by.new.legs.out f.kept _ _
    (ap g.O.Sink.stream c.new-streamer.ensures.now) (search rules)

pub returns-in_err-end-clause-put : goal.returns-in_err-end-clause-put
returns-in_err-end-clause-put g c = λ w h is never.
    let s = run_under c.args.setting.now in
    let out = c.new-streamer.result.out in
    let k = c.in_err-end.ensures.stopped w h is (record { first = w; stood = c.args.world; out = out })
    (since_none g.O.Sink.stream s w c.args.world out never) in
    let same = k.same in
    stops g.O.Sink.stream s _ c.finish_by.new.legs.out c.in_err-end.field-0.0 k _ _
    (ap g.O.Sink.stream c.new-streamer.ensures.now) (search rules) c.from_residual.result c.from_residual.ensures.1
