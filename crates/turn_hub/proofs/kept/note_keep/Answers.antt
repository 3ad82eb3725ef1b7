-- Answers of note_keep: there was room for three entries, so there is for the second and the third.
use Rattle.std.proofs.Common.{arith}
use Rattle.turn_hub.proofs.kept.note_keep.Goals as goal

pub enter-requires-2 : goal.enter-requires-2
enter-requires-2 g c =
    let h = c.enter.ensures.room 2 c.requires in let a = h.0 in let b = h.1 in (omega arith, omega arith)

pub enter-requires-3 : goal.enter-requires-3
enter-requires-3 g c = c.enter-2.ensures.room 1 (c.enter.ensures.room 2 c.requires)
