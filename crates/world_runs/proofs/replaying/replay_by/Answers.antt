-- Answers of replay_by: each entry that has a leg extends the schedule, and the first that has none makes it illegal.
use Rattle.std.proofs.Common.{◌∙◌, [], refl, arith}
use Rattle.std.proofs.lemmas.Option.{slice_get-get_or}
use Rattle.code_world.specs.LegOutcomes.{run_under}
use Rattle.code_machine_laws.proofs.Reaching.{start_reached}
use Rattle.world_runs.proofs.Making.{replay_begins, replay_goes, replay_ends, merges_still}
use Rattle.world_runs.proofs.replaying.replay_by.Goals as goal

pub begin-requires : goal.begin-requires
begin-requires g c = record { fuel = c.requires.fuel }

pub loop-at-init : goal.loop-at-init
loop-at-init g c =
    let b = c.in-Ok.ensures.begun in
    let s = run_under c.args.setting.now in
    record {
      reached = (
        _,
        replay_begins s c.args.fuel b.0 b.1 [] refl,
        start_reached s b.0 b.1 c.args.fuel c.requires.fuel,
        b.2,
        λ told first. first b.0 b.1 c.in-Ok.world b.2,
      );
      size = refl;
      same = refl;
    }

pub make-requires-clause-reached : goal.make-requires-clause-reached
make-requires-clause-reached g c =
    let i = c.loop-at.invariant.reached in
    let f = c.requires.first in
    (i.0, i.2, i.3, f.0, i.4 f.0 f.1)

pub make-requires-clause-size : goal.make-requires-clause-size
make-requires-clause-size g c = c.loop-at.invariant.size ∙ c.requires.size

pub make-requires-clause-merges : goal.make-requires-clause-merges
make-requires-clause-merges g c =
    merges_still (run_under c.args.setting.now) _ _ c.loop-at.invariant.same c.requires.merges

pub returns-in-Ok-None-clause-fault : goal.returns-in-Ok-None-clause-fault
returns-in-Ok-None-clause-fault g c =
    let i = c.loop-at.invariant.reached in
    let f = c.requires.first in
    let k = rw c.in-Ok-None.field-0-is at (c.in-Ok-None.ensures.made i.0 i.2 i.3 f.0 (i.4 f.0 f.1)) in
    record {
      before = i.0;
      replayed = i.1;
      entry = slice_get-get_or c.args.schedule.now c.loop-at.at 0 c.loop-at-test.true;
      none = k.0.0;
    }

pub loop-at-preserved : goal.loop-at-preserved
loop-at-preserved g c =
    let i = c.loop-at.invariant.reached in
    let f = c.requires.first in
    let s = run_under c.args.setting.now in
    let k = rw c.in-Ok-Leg.field-0-is at (c.in-Ok-Leg.ensures.made i.0 i.2 i.3 f.0 (i.4 f.0 f.1)) in
    record {
      reached = (
        k.0.0,
        replay_goes s c.args.fuel c.args.schedule.now c.loop-at.at i.0 k.0.0 i.1 _
            (slice_get-get_or c.args.schedule.now c.loop-at.at 0 c.loop-at-test.true) k.0.1,
        k.0.2,
        k.0.3,
        λ told first.
            let x = rw c.in-Ok-Leg.field-0-is at (c.in-Ok-Leg.ensures.made i.0 i.2 i.3 told (i.4 told first)) in
            x.1 k.0.0 k.0.1,
      );
      size = c.in-Ok-Leg.ensures.size ∙ c.loop-at.invariant.size;
      same = c.in-Ok-Leg.ensures.same ∙ c.loop-at.invariant.same;
    }

pub returns-clause-ok : goal.returns-clause-ok
returns-clause-ok g c =
    let i = c.loop-at.invariant.reached in
    let t = c.loop-at-test.false in (
      i.0,
      replay_ends (run_under c.args.setting.now) c.args.fuel c.args.schedule.now c.loop-at.at i.0 i.1
          (omega (arith, t)),
      i.2,
      i.3,
      i.4,
    )
