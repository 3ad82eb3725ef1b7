-- Answers of world_laws: a leg changes its own revision, a new child and a joined mark, and replay goes leg by leg.
use Rattle.code_machine.proofs.Changes.{legs_change, numbers_stay, others_leave, running_left, replay_goes_on, one_entry, replay_is}
use Rattle.code_machine.proofs.worlds.world_laws.Goals as goal

pub returns : goal.returns
returns c = record {
  own = legs_change;
  numbers = numbers_stay;
  others = others_leave;
  running = running_left;
  on = replay_goes_on;
  one_entry = one_entry;
  replay = replay_is;
}
