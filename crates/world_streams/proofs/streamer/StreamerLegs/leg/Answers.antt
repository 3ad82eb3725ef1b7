-- Answers of Streamer::leg: what the sink takes of a leg goes behind what it took before, also where it fails.
use Rattle.std.proofs.Common.{refl}
use Rattle.rev_vm.specs.Starts.{run_under}
use Rattle.world_runs.proofs.Keeping.{handed}
use Rattle.world_streams.proofs.Legs.{never_by, since_leg, stops_leg}
use Rattle.world_streams.proofs.streamer.StreamerLegs.leg.Goals as goal

pub stream_leg-requires-clause-reached : goal.stream_leg-requires-clause-reached
stream_leg-requires-clause-reached g c =
    let q = c.requires.reached in
    (q.0, q.1, q.2, never_by (run_under c.args.setting.now) q.0 c.args.revision q.4.never)

pub stream_leg-requires-clause-size : goal.stream_leg-requires-clause-size
stream_leg-requires-clause-size g c = c.requires.size

pub stream_leg-requires-clause-merges : goal.stream_leg-requires-clause-merges
stream_leg-requires-clause-merges g c = c.requires.merges

pub returns-clause-kept : goal.returns-clause-kept
returns-clause-kept g c = λ w h is begun kept.
    let s = run_under c.args.setting.now in
    let p = c.in_ok-made.ensures.put w h is (never_by s w c.args.revision kept.never) in
    since_leg g.O.Sink.stream s begun w c.args.world c.args.self.now.out kept c.args.revision c.in_ok-made.made.1
    c.in_ok-made.made.0 _ refl (record { gain = p.0; gains = p.1; took = p.2 })

pub returns-in_err-made-clause-stopped : goal.returns-in_err-made-clause-stopped
returns-in_err-made-clause-stopped g c = λ w h is begun kept.
    let s = run_under c.args.setting.now in
    handed _ c.from_residual.result c.in_err-made.field-0.0 c.from_residual.ensures.1
    (stops_leg g.O.Sink.stream s begun w c.args.world c.args.self.now.out kept is h c.args.revision _ refl
    c.in_err-made.field-0.0
    (c.in_err-made.ensures.put w h is (never_by s w c.args.revision kept.never)))
