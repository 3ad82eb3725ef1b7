-- Answers of try_leg: a leg leads to the world of the definition, or its want is noted; in Twice there is none.
use Rattle.std.proofs.Common.{subst}
use Rattle.code_world.specs.LegOutcomes.{run_under}
use Rattle.code_world.specs.Tables.{IsWorld}
use Rattle.world_runs.proofs.Keeping.{handed, kept_so, led_to}
use Rattle.world_runs.proofs.LeastLegs.{tried_live, tried_twice, known_live}
use Rattle.world_runs.proofs.ending.try_leg.Goals as goal

pub leg-requires-clause-reached : goal.leg-requires-clause-reached
leg-requires-clause-reached g c =
    let q = c.requires.reached in
    let s = run_under c.args.setting.now in (
      q.0,
      q.1,
      subst (λ v. IsWorld s v q.0) c.in-Live.is q.2,
      q.4,
      subst (g.L.Legs.keeps c.args.legs.now q.4 s q.0) c.in-Live.is q.5,
    )

pub leg-requires-clause-size : goal.leg-requires-clause-size
leg-requires-clause-size g c = c.requires.size

pub leg-requires-clause-merges : goal.leg-requires-clause-merges
leg-requires-clause-merges g c = c.requires.merges

pub note-requires : goal.note-requires
note-requires g c =
    let q = c.requires.reached in
    let s = run_under c.args.setting.now in
    known_live s c.args.setting.now.faultless c.args.world q.0 c.in-Live.table c.in-Live.is q.1 q.2 c.args.number
    c.args.queue.now q.3 c.in_ok-next.answer c.in_ok-next.next
    (c.in_ok-next.ensures.answer q.0 q.1 (subst (λ v. IsWorld s v q.0) c.in-Live.is q.2) q.4
    (subst (g.L.Legs.keeps c.args.legs.now q.4 s q.0) c.in-Live.is q.5))

pub returns-in-Twice-clause-tried : goal.returns-in-Twice-clause-tried
returns-in-Twice-clause-tried g c = λ w reached is but told kept.
    let s = run_under c.args.setting.now in (
      tried_twice s c.args.world w c.in-Twice.is is c.args.number c.args.queue.now,
      subst (g.L.Legs.keeps c.args.legs.now told s w) c.in-Twice.is kept,
    )

pub returns-in-Ok-clause-tried : goal.returns-in-Ok-clause-tried
returns-in-Ok-clause-tried g c = λ w reached is but told kept.
    let s = run_under c.args.setting.now in
    let live = subst (λ v. IsWorld s v w) c.in-Live.is is in
    let stood = subst (g.L.Legs.keeps c.args.legs.now told s w) c.in-Live.is kept in (
      tried_live s c.args.setting.now.faultless c.args.world w c.in-Live.table c.in-Live.is reached is c.args.number
          c.args.queue.now but c.in_ok-next.answer c.in_ok-next.next
          (c.in_ok-next.ensures.answer w reached live told stood)
          c.note.new.queue c.in-Ok.ensures.noted c.in-Ok.ensures.still c.sort_out.result c.sort_out.ensures,
      kept_so s w c.args.number (g.L.Legs.keeps c.leg.new.self told s) c.in_ok-next.next c.in_ok-next.answer
          (c.in_ok-next.ensures.kept w reached live told stood) c.sort_out.result c.sort_out.ensures,
    )

pub returns-in_err-next-clause-stopped : goal.returns-in_err-next-clause-stopped
returns-in_err-next-clause-stopped g c = λ w reached is told kept.
    let s = run_under c.args.setting.now in
    let live = subst (λ v. IsWorld s v w) c.in-Live.is is in
    let stood = subst (g.L.Legs.keeps c.args.legs.now told s w) c.in-Live.is kept in
    handed (g.L.Legs.stops c.leg.new.self told s) c.from_residual.result c.in_err-next.field-0.0
    c.from_residual.ensures.1 (c.in_err-next.ensures.stopped w reached live told stood)

pub returns-in-Err-clause-stopped : goal.returns-in-Err-clause-stopped
returns-in-Err-clause-stopped g c = λ w reached is told kept.
    let s = run_under c.args.setting.now in
    let live = subst (λ v. IsWorld s v w) c.in-Live.is is in
    let stood = subst (g.L.Legs.keeps c.args.legs.now told s w) c.in-Live.is kept in
    let there =
    led_to s w c.args.number (λ u. g.L.Legs.keeps c.leg.new.self told s u c.in_ok-next.next) reached c.in_ok-next.next
    c.args.world c.in-Live.table c.in-Live.is is c.in_ok-next.answer
    (c.in_ok-next.ensures.answer w reached live told stood) (c.in_ok-next.ensures.kept w reached live told stood) in
    c.out_of_memory.ensures s there.0 c.in_ok-next.next there.1 there.2 told there.3
