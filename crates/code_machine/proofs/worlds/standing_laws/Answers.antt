-- Answers of standing_laws: a join depends on the joined end alone, so it is the same to stand at it or before it.
use Rattle.code_machine.proofs.Changes.{standing_is, waiting_has_none, waiting_stays}
use Rattle.code_machine.proofs.Alike.{worlds_alike, legs_alike, schedules_alike, waiting_alike}
use Rattle.code_machine.proofs.worlds.standing_laws.Goals as goal

pub returns : goal.returns
returns c = record {
  no_leg = waiting_has_none;
  stays = waiting_stays;
  same_leg = standing_is;
  itself = worlds_alike;
  legs = legs_alike;
  schedules = schedules_alike;
  waits = waiting_alike;
}
