-- Answers of finish_by: all numbers are ready at first, and each turn makes the leg of the least, until none has one.
use Rattle.std.proofs.Common.{◌∙◌, refl, arith}
use Rattle.code_world.specs.LegOutcomes.{run_under}
use Rattle.world_runs.proofs.Keeping.{came_first, came_on, came_to_end, handed}
use Rattle.world_runs.proofs.LeastLegs.{first_covers, count_fits, came_few}
use Rattle.world_runs.proofs.Making.{merges_still}
use Rattle.world_runs.proofs.ending.finish_by.Goals as goal

pub all_ready-requires : goal.all_ready-requires
all_ready-requires g c =
    let q = c.requires.reached in
    let fits = count_fits (run_under c.args.setting.now) c.args.setting.now.faultless c.args.world q.0 q.1 q.2 in
    let is = c.count.ensures in
    omega (arith, fits, is)

pub loop-init : goal.loop-init
loop-init g c = record {
  came = λ w h is told kept.
      let s = run_under c.args.setting.now in
      came_first (g.L.Legs.keeps c.args.legs.now told s) s w c.args.world c.in-Ok.queue h is
      (first_covers s c.args.world w is c.in-Ok.queue (c.in-Ok.ensures.count ∙ c.count.ensures)
      (λ m less. c.in-Ok.ensures.ready m (let same = c.count.ensures in omega (arith, less, same))))
      kept;
  size = refl;
  same = refl;
}

pub make_least-requires-clause-reached : goal.make_least-requires-clause-reached
make_least-requires-clause-reached g c =
    let q = c.requires.reached in
    let i = c.loop.invariant.came q.0 q.1 q.2 q.3 q.4 in
    (i.came.last, i.came.reached, i.came.stands, i.came.covers, q.3, i.kept)

pub make_least-requires-clause-merges : goal.make_least-requires-clause-merges
make_least-requires-clause-merges g c =
    merges_still (run_under c.args.setting.now) _ _ c.loop.invariant.same c.requires.merges

pub returns-in-None-clause-finished : goal.returns-in-None-clause-finished
returns-in-None-clause-finished g c = λ w h is told kept.
    let i = c.loop.invariant.came w h is told kept in
    let k = rw c.in-None.is at
    (c.in_ok-next.ensures.least i.came.last i.came.reached i.came.stands i.came.covers told i.kept) in
    came_to_end (g.L.Legs.keeps c.loop.legs told (run_under c.args.setting.now))
    (g.L.Legs.keeps c.make_least.new.legs told (run_under c.args.setting.now)) (run_under c.args.setting.now) w
    c.loop.counter c.loop.world c.loop.queue i c.in-None.end c.make_least.new.queue k

pub loop-preserved : goal.loop-preserved
loop-preserved g c = record {
  came = λ w h is told kept.
      let i = c.loop.invariant.came w h is told kept in
      let k = rw c.in-Leg.is at
      (c.in_ok-next.ensures.least i.came.last i.came.reached i.came.stands i.came.covers told i.kept) in
      came_on (g.L.Legs.keeps c.loop.legs told (run_under c.args.setting.now))
      (g.L.Legs.keeps c.make_least.new.legs told (run_under c.args.setting.now)) (run_under c.args.setting.now) w
      c.loop.counter c.loop.world c.loop.queue i c.in-Leg.next c.make_least.new.queue k;
  size = c.in_ok-next.ensures.size ∙ c.loop.invariant.size;
  same = c.in_ok-next.ensures.same ∙ c.loop.invariant.same;
}

pub unreachable-requires : goal.unreachable-requires
unreachable-requires g c =
    let q = c.requires.reached in
    let i = c.loop.invariant.came q.0 q.1 q.2 q.3 q.4 in
    let few =
    came_few (run_under c.args.setting.now) c.args.setting.now.faultless q.0 q.1 c.loop.counter c.loop.world
    c.loop.queue i.came in
    let end = c.loop-test.false in
    omega (arith, few, end)

pub returns-in-Err-clause-stopped : goal.returns-in-Err-clause-stopped
returns-in-Err-clause-stopped g c = λ w h is told kept.
    c.out_of_memory.ensures (run_under c.args.setting.now) w c.args.world h is told kept

pub returns-in_err-next-clause-stopped : goal.returns-in_err-next-clause-stopped
returns-in_err-next-clause-stopped g c = λ w h is told kept.
    let s = run_under c.args.setting.now in
    let i = c.loop.invariant.came w h is told kept in
    handed (g.L.Legs.stops c.make_least.new.legs told s) c.from_residual.result c.in_err-next.field-0.0
    c.from_residual.ensures.1
    (c.in_err-next.ensures.stopped i.came.last i.came.reached i.came.stands i.came.covers told i.kept)
