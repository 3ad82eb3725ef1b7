-- Answers of make: a leg leads to the world of the definition, or there is a reason why there is none.
use Rattle.std.proofs.Common.{subst}
use Rattle.code_world.specs.LegOutcomes.{run_under}
use Rattle.code_world.specs.Tables.{IsWorld}
use Rattle.world_runs.proofs.Keeping.{kept_so}
use Rattle.world_runs.proofs.Making.{made_live, made_twice}
use Rattle.world_runs.proofs.replaying.make.Goals as goal

pub leg-requires-clause-reached : goal.leg-requires-clause-reached
leg-requires-clause-reached g c =
    let q = c.requires.reached in
    let s = run_under c.args.setting.now in (
      q.0,
      q.1,
      subst (λ v. IsWorld s v q.0) c.in-Live.is q.2,
      q.3,
      subst (g.L.Legs.keeps c.args.legs.now q.3 s q.0) c.in-Live.is q.4,
    )

pub leg-requires-clause-size : goal.leg-requires-clause-size
leg-requires-clause-size g c = c.requires.size

pub leg-requires-clause-merges : goal.leg-requires-clause-merges
leg-requires-clause-merges g c = c.requires.merges

pub returns-in-Twice-clause-made : goal.returns-in-Twice-clause-made
returns-in-Twice-clause-made g c = λ w reached is told kept.
    let s = run_under c.args.setting.now in (
      made_twice s c.args.world w c.in-Twice.is is c.args.revision,
      subst (g.L.Legs.keeps c.args.legs.now told s w) c.in-Twice.is kept,
    )

pub returns-in_ok-next-in-Live-clause-made : goal.returns-in_ok-next-in-Live-clause-made
returns-in_ok-next-in-Live-clause-made g c = λ w reached is told kept.
    let s = run_under c.args.setting.now in
    let live = subst (λ v. IsWorld s v w) c.in-Live.is is in
    let stood = subst (g.L.Legs.keeps c.args.legs.now told s w) c.in-Live.is kept in (
      made_live s c.args.world w c.in-Live.table c.in-Live.is reached is c.args.revision c.in_ok-next-in-Live.answer
          c.in_ok-next-in-Live.next
          (c.in_ok-next-in-Live.ensures.answer w reached live told stood) c.sort_out.result c.sort_out.ensures,
      kept_so s w c.args.revision (g.L.Legs.keeps c.leg.new.self told s) c.in_ok-next-in-Live.next
          c.in_ok-next-in-Live.answer (c.in_ok-next-in-Live.ensures.kept w reached live told stood) c.sort_out.result
          c.sort_out.ensures,
    )
