-- Answers of schedule_laws: replay goes leg by leg in one way, so a schedule is legal or stops at one first entry.
use Rattle.code_runs.proofs.Schedules.{each_is_legal_or_stops, legal_never_stops, one_stop, world_is_one}
use Rattle.code_runs.proofs.laws.schedule_laws.Goals as goal

pub returns-clause-sorted : goal.returns-clause-sorted
returns-clause-sorted c = each_is_legal_or_stops

pub returns-clause-apart : goal.returns-clause-apart
returns-clause-apart c = legal_never_stops

pub returns-clause-world : goal.returns-clause-world
returns-clause-world c = world_is_one

pub returns-clause-stop : goal.returns-clause-stop
returns-clause-stop c = one_stop
