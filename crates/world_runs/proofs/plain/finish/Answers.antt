-- Answers of finish: finish_by with legs that keep nothing.
use Rattle.world_runs.proofs.plain.finish.Goals as goal

pub finish_by-requires-clause-reached : goal.finish_by-requires-clause-reached
finish_by-requires-clause-reached g c = let q = c.requires.reached in (q.0, q.1, q.2, tt, tt)

pub returns-clause-finished : goal.returns-clause-finished
returns-clause-finished g c = λ w h is. (c.in_ok-end.ensures.finished w h is tt tt).finished
