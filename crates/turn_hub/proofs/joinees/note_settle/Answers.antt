-- Answers of note_settle: there was room for two entries, so there is for the second.
use Rattle.turn_hub.proofs.joinees.note_settle.Goals as goal

pub enter-requires-2 : goal.enter-requires-2
enter-requires-2 g c = c.enter.ensures.room 1 c.requires
