-- Answers of make_least: a number that is taken out with no leg is known to have none, so the first with one is least.
use Rattle.std.proofs.Common.{◌≡◌, ◌∙◌, ◌<◌, ◌^◌, ℕ, ap, arith, rules}
use Rattle.std.specs.BinaryHeap.{heap_len}
use Rattle.code_world.specs.LegOutcomes.{run_under}
use Rattle.world_runs.specs.Queue.{HasReady, entered}
use Rattle.world_runs.proofs.Keeping.{handed}
use Rattle.world_runs.proofs.LeastLegs.{take_out, least_in, none_in}
use Rattle.world_runs.proofs.Making.{merges_still}
use Rattle.world_runs.proofs.ending.make_least.Goals as goal

pub try_leg-requires-clause-reached : goal.try_leg-requires-clause-reached
try_leg-requires-clause-reached g c =
    let q = c.requires.reached in
    let i = c.loop-number.invariant.reached q.0 q.1 q.2 q.3 q.4 q.5 in (
      q.0,
      q.1,
      i.0,
      take_out (run_under c.args.setting.now) c.args.setting.now.faultless q.0 q.1 c.loop-number.queue c.take.new.self
          c.in-Some.number i.1 c.in-Some.ensures.kept c.in-Some.ensures.waiters,
      q.4,
      i.2,
    )

pub try_leg-requires-clause-merges : goal.try_leg-requires-clause-merges
try_leg-requires-clause-merges g c =
    merges_still (run_under c.args.setting.now) _ _ c.loop-number.invariant.same c.requires.merges

pub returns-in-Leg-clause-least : goal.returns-in-Leg-clause-least
returns-in-Leg-clause-least g c = λ w h is covers told noted.
    let s = run_under c.args.setting.now in
    let i = c.loop-number.invariant.reached w h is covers told noted in
    let b = take_out s c.args.setting.now.faultless w h c.loop-number.queue c.take.new.self c.in-Some.number i.1
    c.in-Some.ensures.kept c.in-Some.ensures.waiters in
    let k = rw c.in-Leg.is at (c.in_ok-next.ensures.tried w h i.0 b told i.2) in
    let few : c.in-Some.number < 2 ^ 32 = search rules in (
      (
        c.in-Some.number,
        k.0.0,
        k.0.1,
        least_in s c.args.setting.now.faultless w h c.loop-number.queue c.in-Some.number i.1 c.in-Some.ensures.least
            few,
        k.0.2,
        k.0.3,
        k.0.4,
      ),
      k.1 k.0.0 k.0.1,
    )

pub loop-number-smaller : goal.loop-number-smaller
loop-number-smaller g c =
    let q = c.requires.reached in
    let i = c.loop-number.invariant.reached q.0 q.1 q.2 q.3 q.4 q.5 in
    let b = take_out (run_under c.args.setting.now) c.args.setting.now.faultless q.0 q.1 c.loop-number.queue
    c.take.new.self c.in-Some.number i.1 c.in-Some.ensures.kept c.in-Some.ensures.waiters in
    let k = rw c.in-None.is at (c.in_ok-next.ensures.tried q.0 q.1 i.0 b q.4 i.2) in
    let e : entered c.try_leg.new.queue ≡ entered c.take.new.self = ap (λ r. heap_len r.above) k.0.3 in
    let f = c.in-Some.ensures.fewer in
    omega (arith, e, f)

pub loop-number-preserved : goal.loop-number-preserved
loop-number-preserved g c = record {
  reached = λ w h is covers told noted.
      let i = c.loop-number.invariant.reached w h is covers told noted in
      let b = take_out (run_under c.args.setting.now) c.args.setting.now.faultless w h c.loop-number.queue
      c.take.new.self c.in-Some.number i.1 c.in-Some.ensures.kept c.in-Some.ensures.waiters in
      let k = rw c.in-None.is at (c.in_ok-next.ensures.tried w h i.0 b told i.2) in
      (k.0.1, k.0.2, k.1);
  size = c.in_ok-next.ensures.size ∙ c.loop-number.invariant.size;
  same = c.in_ok-next.ensures.same ∙ c.loop-number.invariant.same;
}

pub returns-clause-least : goal.returns-clause-least
returns-clause-least g c = λ w h is covers told noted.
    let i = c.loop-number.invariant.reached w h is covers told noted in
    let none : (m : ℕ) → HasReady c.loop-number.queue m → ⊥ = c.in_default.ensures.none in
    ((none_in (run_under c.args.setting.now) c.args.setting.now.faultless w h c.loop-number.queue i.1 none, i.0), i.2)

pub returns-in_err-next-clause-stopped : goal.returns-in_err-next-clause-stopped
returns-in_err-next-clause-stopped g c = λ w h is covers told kept.
    let s = run_under c.args.setting.now in
    let i = c.loop-number.invariant.reached w h is covers told kept in
    handed (g.L.Legs.stops c.try_leg.new.legs told s) c.from_residual.result c.in_err-next.field-0.0
    c.from_residual.ensures.1 (c.in_err-next.ensures.stopped w h i.0 told i.2)
