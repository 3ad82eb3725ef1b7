-- Answers of Plain::leg: a leg with nothing beside it keeps nothing more.
use Rattle.code_world.specs.LegOutcomes.{run_under}
use Rattle.world_runs.proofs.Keeping.{kept_nothing}
use Rattle.world_runs.proofs.plain.PlainLegs.leg.Goals as goal

pub leg-requires-clause-reached : goal.leg-requires-clause-reached
leg-requires-clause-reached g c = let q = c.requires.reached in (q.0, q.1, q.2)

pub returns-clause-kept : goal.returns-clause-kept
returns-clause-kept g c = λ w reached is told kept.
    kept_nothing (run_under c.args.setting.now) w c.args.revision c.in_ok-made.made.1
