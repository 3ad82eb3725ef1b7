-- Answers of world_laws: two lemmas, that the hub's schedules replay as the code's, and that complete ones are so.
use Rattle.run_revision.proofs.Shown.{replays}
use Rattle.run_revision.proofs.JoinersAndEnds.{over_is}
use Rattle.run_revision.proofs.code_laws.world_laws.Goals as goal

pub returns-clause-replays : goal.returns-clause-replays
returns-clause-replays c = replays

pub returns-clause-over : goal.returns-clause-over
returns-clause-over c = over_is
