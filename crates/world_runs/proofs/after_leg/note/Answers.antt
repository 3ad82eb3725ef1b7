-- Answers of note: each answer of a leg readies, wakes or lets wait those numbers that it concerns.
use Rattle.world_runs.proofs.CoveringAfter.{on_below, ended_below, trapped_below, noted_waits, noted_joined, noted_forked, noted_ended, noted_trapped, noted_twice, noted_over, noted_none}
use Rattle.world_runs.proofs.after_leg.note.Goals as goal

pub wake-requires : goal.wake-requires
wake-requires c = let q = c.requires in ended_below q.0 q.1 c.args.number q.2 c.args.queue.now (rw c.in-Ended.is at q.3)

pub wake-requires-in-Trapped : goal.wake-requires-in-Trapped
wake-requires-in-Trapped c =
    let q = c.requires in trapped_below q.0 q.1 c.args.number q.2 c.args.queue.now (rw c.in-Trapped.is at q.3)

pub wait-requires : goal.wait-requires
wait-requires c =
    let q = c.requires in
    on_below q.0 q.1 c.args.number q.2 c.args.queue.now c.args.queue.now c.in-Waits.on (rw c.in-Waits.is at q.3)

pub returns-in_ok-note_fork-in-Forked-clause-noted : goal.returns-in_ok-note_fork-in-Forked-clause-noted
returns-in_ok-note_fork-in-Forked-clause-noted c = λ g w v k. rw c.in-Forked.is
    (let e = c.in_ok-note_fork-in-Forked.ensures in
    noted_forked g w c.args.number v c.args.queue.now c.note_fork.new.queue c.in-Forked.child (rw c.in-Forked.is at k)
    e.forker e.child e.kept e.count)

pub returns-in_ok-enter-in-Joined-clause-noted : goal.returns-in_ok-enter-in-Joined-clause-noted
returns-in_ok-enter-in-Joined-clause-noted c = λ g w v k. rw c.in-Joined.is
    (let e = c.in_ok-enter-in-Joined.ensures in
    noted_joined g w c.args.number v c.args.queue.now c.enter.new.self _ (rw c.in-Joined.is at k) e.here e.kept e.count)

pub returns-in_ok-wake-in-Ended-clause-noted : goal.returns-in_ok-wake-in-Ended-clause-noted
returns-in_ok-wake-in-Ended-clause-noted c = λ g w v k. rw c.in-Ended.is
    (let e = c.in_ok-wake-in-Ended.ensures in
    noted_ended g w c.args.number v c.args.queue.now c.wake.new.self e.woken e.ready e.others e.count
    (rw c.in-Ended.is at k))

pub returns-in_ok-wake-in-Trapped-clause-noted : goal.returns-in_ok-wake-in-Trapped-clause-noted
returns-in_ok-wake-in-Trapped-clause-noted c = λ g w v k. rw c.in-Trapped.is
    (let e = c.in_ok-wake-in-Trapped.ensures in
    noted_trapped g w c.args.number v c.args.queue.now c.wake-in-Trapped.new.self e.woken e.ready e.others e.count
    (rw c.in-Trapped.is at k))

pub returns-in_ok-wait-in-Waits-clause-noted : goal.returns-in_ok-wait-in-Waits-clause-noted
returns-in_ok-wait-in-Waits-clause-noted c = λ g w v k. rw c.in-Waits.is
    (let e = c.in_ok-wait-in-Waits.ensures in
    noted_waits g w c.args.number v c.args.queue.now c.wait.new.self c.in-Waits.on (rw c.in-Waits.is at k) e.here e.kept
    e.count)

pub returns-in-Twice-clause-noted : goal.returns-in-Twice-clause-noted
returns-in-Twice-clause-noted c = λ g w v k. rw c.in-Twice.is
    (noted_twice g w c.args.number v c.args.queue.now (rw c.in-Twice.is at k))

pub returns-in-NoSuch-clause-noted : goal.returns-in-NoSuch-clause-noted
returns-in-NoSuch-clause-noted c = λ g w v k. rw c.in-NoSuch.is
    (noted_none g w c.args.number v c.args.queue.now (rw c.in-NoSuch.is at k))

pub returns-in-Over-clause-noted : goal.returns-in-Over-clause-noted
returns-in-Over-clause-noted c = λ g w v k. rw c.in-Over.is
    (noted_over g w c.args.number v c.args.queue.now (rw c.in-Over.is at k))
