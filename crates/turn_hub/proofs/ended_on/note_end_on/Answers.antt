-- Answers of note_end_on: there was room for two entries, so there is for the second.
use Rattle.std.proofs.Common.{◌++◌, sym, ap, ◌∙◌, append_assoc}
use Rattle.hub_core.specs.Rounds.{stamped}
use Rattle.hub_core.specs.Tally.{pairs, entered}
use Rattle.turn_hub.specs.Plans.{end_deeds}
use Rattle.turn_hub.specs.Comings.{coming_deeds}
use Rattle.turn_hub.proofs.Heads.{entered_append, stamped_append, room_one}
use Rattle.turn_hub.proofs.ended_on.note_end_on.Goals as goal

pub note_coming-requires : goal.note_coming-requires
note_coming-requires g c =
    c.note_end.ensures.room 1 (room_one c.args.by_join c.args.journal.now c.requires)

pub returns-clause-entries : goal.returns-clause-entries
returns-clause-entries g c =
    let n = c.args.count in
    let first = entered (end_deeds c.args.by_join c.args.of) in
    let later = entered (coming_deeds c.args.coming) in
    let old = pairs c.args.journal.now.entries.items in
    c.note_coming.ensures.entries
    ∙ (ap (λ l. l ++ stamped n later) c.note_end.ensures.entries
    ∙ (append_assoc old (stamped n first) (stamped n later)
    ∙ ap (λ l. old ++ l)
    (sym (stamped_append n first later)
    ∙ ap (stamped n) (sym (entered_append (end_deeds c.args.by_join c.args.of) (coming_deeds c.args.coming))))))
