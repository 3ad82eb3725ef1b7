-- Answers of note_end: one entry takes the room of one.
use Rattle.std.proofs.Common.{rules, ◌≡◌, ◌+◌, cond, false, subst}
use Rattle.hub_core.specs.Journaled.{HasRoomFor}
use Rattle.turn_hub.proofs.ending.note_end.Goals as goal

pub returns-then-not-by_join-clause-room : goal.returns-then-not-by_join-clause-room
returns-then-not-by_join-clause-room g c =
    let off : c.args.by_join ≡ false = search rules in
    λ more h. c.enter.ensures.room more (subst (λ z. HasRoomFor (more + cond z 0 1) c.args.journal.now) off h)
