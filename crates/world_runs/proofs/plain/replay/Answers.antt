-- Answers of replay: replay_by with legs that keep nothing.
use Rattle.code_world.specs.LegOutcomes.{run_under}
use Rattle.world_runs.specs.Replay.{IsIllegal}
use Rattle.world_runs.proofs.Keeping.{handed}
use Rattle.world_runs.proofs.plain.replay.Goals as goal

pub replay_by-requires-clause-first : goal.replay_by-requires-clause-first
replay_by-requires-clause-first g c = (tt, λ n m v is. tt)

pub returns-clause-ok : goal.returns-clause-ok
returns-clause-ok g c = let k = c.in_ok-world.ensures.ok in (k.0, k.1, k.2, k.3)

pub returns-in_err-world-clause-fault : goal.returns-in_err-world-clause-fault
returns-in_err-world-clause-fault g c =
    handed (IsIllegal (run_under c.args.setting.now) c.args.fuel c.args.schedule.now) c.from_residual.result
    c.in_err-world.field-0.0 c.from_residual.ensures.1 c.in_err-world.ensures.fault
