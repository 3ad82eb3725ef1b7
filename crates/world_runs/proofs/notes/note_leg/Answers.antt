-- Answers of note_leg: the leg's answer means that the number has a note, and says what is to be noted of it.
use Rattle.std.proofs.Common.{refl}
use Rattle.world_runs.proofs.Below.{below_forked, below_joined, below_ended, below_trapped}
use Rattle.world_runs.proofs.notes.note_leg.Goals as goal

pub note_fork-requires : goal.note_fork-requires
note_fork-requires c =
    let q = c.requires in
    below_forked q.0 q.1 c.args.number _ c.args.world.now (rw c.in-Forked.is at q.2) c.args.notes.now.items q.3

pub add_meeting-requires : goal.add_meeting-requires
add_meeting-requires c =
    let q = c.requires in
    below_joined q.0 q.1 c.args.number _ c.args.world.now (rw c.in-Joined.is at q.2) c.args.notes.now.items q.3

pub note_end-requires : goal.note_end-requires
note_end-requires c =
    let q = c.requires in
    below_ended q.0 q.1 c.args.number c.args.world.now (rw c.in-Ended.is at q.2) c.args.notes.now.items q.3

pub note_end-requires-in-Trapped : goal.note_end-requires-in-Trapped
note_end-requires-in-Trapped c =
    let q = c.requires in
    below_trapped q.0 q.1 c.args.number c.args.world.now (rw c.in-Trapped.is at q.2) c.args.notes.now.items q.3

pub returns-in_ok-note_fork-in-Forked : goal.returns-in_ok-note_fork-in-Forked
returns-in_ok-note_fork-in-Forked c = rw c.in-Forked.is c.in_ok-note_fork-in-Forked.ensures

pub returns-in_ok-add_meeting-in-Joined : goal.returns-in_ok-add_meeting-in-Joined
returns-in_ok-add_meeting-in-Joined c = rw c.in-Joined.is c.in_ok-add_meeting-in-Joined.ensures

pub returns-in_ok-note_end-in-Ended : goal.returns-in_ok-note_end-in-Ended
returns-in_ok-note_end-in-Ended c = rw c.in-Ended.is c.in_ok-note_end-in-Ended.ensures

pub returns-in_ok-note_end-in-Trapped : goal.returns-in_ok-note_end-in-Trapped
returns-in_ok-note_end-in-Trapped c = rw c.in-Trapped.is c.in_ok-note_end-in-Trapped.ensures

pub returns-in-Waits : goal.returns-in-Waits
returns-in-Waits c = rw c.in-Waits.is refl

pub returns-in-Twice : goal.returns-in-Twice
returns-in-Twice c = rw c.in-Twice.is refl

pub returns-in-NoSuch : goal.returns-in-NoSuch
returns-in-NoSuch c = rw c.in-NoSuch.is refl

pub returns-in-Over : goal.returns-in-Over
returns-in-Over c = rw c.in-Over.is refl
