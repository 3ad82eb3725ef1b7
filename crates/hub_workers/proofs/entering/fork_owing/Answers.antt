-- Answers of fork_owing: behind both entries the split is the fork of the joiner's leg, told of one turn.
use Rattle.std.proofs.Common.{sym, ap, ◌∙◌, subst}
use Rattle.revision_machine.specs.Numbered.{Bears}
use Rattle.hub_core.specs.Seats.{HasState}
use Rattle.hub_workers.proofs.Events.{hand_on, hand_after}
use Rattle.hub_workers.proofs.Owing.{behind_state, behind_same, behind_alone, halted_same, halted_in}
use Rattle.hub_workers.proofs.Children.{kept_same, kept_next, kept_pair}
use Rattle.hub_workers.proofs.entering.fork_owing.Goals as goal

pub fork_behind-requires-clause-event : goal.fork_behind-requires-clause-event
fork_behind-requires-clause-event g c = (
  c.requires.event.0,
  g.L.Legs.forker c.args.at,
  c.requires.event.1,
  c.requires.event.2 ∙ ap (Bears (g.L.Legs.forker c.args.at)) (sym c.in-Ok.ensures.child),
)

pub fork_and_keep-requires-clause-event : goal.fork_and_keep-requires-clause-event
fork_and_keep-requires-clause-event g c = (
  c.requires.event.0,
  g.L.Legs.forker c.args.at,
  c.requires.event.1,
  c.requires.event.2 ∙ ap (Bears (g.L.Legs.forker c.args.at)) (sym c.in-Ok.ensures.child),
)

pub returns-in-Ok-fork_behind-clause-next : goal.returns-in-Ok-fork_behind-clause-next
returns-in-Ok-fork_behind-clause-next g c =
    let l = c.requires.event.0 in
    let f = c.in-Ok-fork_behind.ensures.ok l c.requires.event.1 in
    let same =
    behind_same g.L.Revision.machine g.L.Revision.ends c.args.seat.now.place.me.0.seat
    c.fork_behind.new.seat.place.me.0.seat
    c.args.joinee c.args.number c.in-Ok-fork_behind.child l c.in-Ok.child f in (
      subst (HasState g.L.Revision.machine g.L.Revision.ends c.fork_behind.new.seat.place.me.0.seat c.args.number)
          (sym (c.told-runner.ensures.state ∙ c.in-Ok.ensures.parent c.in-Ok-fork_behind.child))
          (behind_state g.L.Revision.machine g.L.Revision.ends c.args.seat.now.place.me.0.seat
          c.fork_behind.new.seat.place.me.0.seat c.args.joinee c.args.number c.in-Ok-fork_behind.child l c.in-Ok.child
          (g.L.Legs.forker c.args.at) f
          (c.requires.event.2 ∙ ap (Bears (g.L.Legs.forker c.args.at)) (sym c.in-Ok.ensures.child))),
      c.told-runner.ensures.group ∙ (c.in-Ok.ensures.parent_group ∙ (sym c.requires.hand.0 ∙ sym same.1)),
    )

pub returns-in-Ok-fork_behind-clause-same : goal.returns-in-Ok-fork_behind-clause-same
returns-in-Ok-fork_behind-clause-same g c =
    let l = c.requires.event.0 in
    behind_same g.L.Revision.machine g.L.Revision.ends c.args.seat.now.place.me.0.seat
    c.fork_behind.new.seat.place.me.0.seat
    c.args.joinee c.args.number c.in-Ok-fork_behind.child l c.in-Ok.child
    (c.in-Ok-fork_behind.ensures.ok l c.requires.event.1)

pub returns-in-Ok-fork_behind-clause-hand : goal.returns-in-Ok-fork_behind-clause-hand
returns-in-Ok-fork_behind-clause-hand g c =
    let l = c.requires.event.0 in
    hand_after g.L.Legs.begins g.L.Legs.hand_group c.args.seat.now.place.me.0.seat
    c.fork_behind.new.seat.place.me.0.seat
    c.args.hand.now c.split.new.hand c.requires.hand c.split.ensures.hand
    (behind_same g.L.Revision.machine g.L.Revision.ends c.args.seat.now.place.me.0.seat
    c.fork_behind.new.seat.place.me.0.seat
    c.args.joinee c.args.number c.in-Ok-fork_behind.child l c.in-Ok.child
    (c.in-Ok-fork_behind.ensures.ok l c.requires.event.1))

pub returns-in-Ok-fork_behind-clause-only : goal.returns-in-Ok-fork_behind-clause-only
returns-in-Ok-fork_behind-clause-only g c = λ pair.
    let l = c.requires.event.0 in
    behind_alone g.L.Revision.machine g.L.Revision.ends c.args.seat.now.place.me.0.seat
    c.fork_behind.new.seat.place.me.0.seat
    c.args.joinee c.args.number c.in-Ok-fork_behind.child l c.in-Ok.child
    (c.in-Ok-fork_behind.ensures.ok l c.requires.event.1) pair

pub returns-in-Err-clause-same : goal.returns-in-Err-clause-same
returns-in-Err-clause-same g c =
    halted_same g.L.Revision.machine g.L.Revision.ends c.args.seat.now.place.me.0.seat
    c.fork_behind.new.seat.place.me.0.seat
    c.args.joinee c.args.number c.requires.event.0 (c.in-Err.ensures.err.1 c.requires.event.0 c.requires.event.1)

pub returns-in-Err-clause-hand : goal.returns-in-Err-clause-hand
returns-in-Err-clause-hand g c =
    let same = halted_same g.L.Revision.machine g.L.Revision.ends c.args.seat.now.place.me.0.seat
    c.fork_behind.new.seat.place.me.0.seat
    c.args.joinee c.args.number c.requires.event.0 (c.in-Err.ensures.err.1 c.requires.event.0 c.requires.event.1) in
    let one = hand_on g.L.Legs.begins g.L.Legs.hand_group c.args.seat.now.place.me.0.seat c.args.hand.now
    c.split.new.hand
    c.requires.hand c.split.ensures.hand in
    hand_after g.L.Legs.begins g.L.Legs.hand_group c.args.seat.now.place.me.0.seat
    c.fork_behind.new.seat.place.me.0.seat
    c.split.new.hand c.give_up_split.new.hand one c.give_up_split.ensures same

pub returns-in-Err-clause-only : goal.returns-in-Err-clause-only
returns-in-Err-clause-only g c = λ pair.
    halted_in g.L.Revision.machine g.L.Revision.ends c.args.seat.now.place.me.0.seat
    c.fork_behind.new.seat.place.me.0.seat
    c.args.joinee c.args.number c.requires.event.0 (c.in-Err.ensures.err.1 c.requires.event.0 c.requires.event.1)

pub returns-in-Ok-fork_and_keep-clause-next : goal.returns-in-Ok-fork_and_keep-clause-next
returns-in-Ok-fork_and_keep-clause-next g c =
    let l = c.requires.event.0 in
    let f = c.in-Ok-fork_and_keep.ensures.ok l c.requires.event.1 in
    let same =
    kept_same g.L.Revision.machine g.L.Revision.ends c.args.seat.now.place.me.0.seat
    c.fork_and_keep.new.seat.place.me.0.seat
    c.args.joinee c.args.number c.in-Ok-fork_and_keep.child l c.in-Ok.child c.in-Ok-fork_and_keep.kept f in
    let next =
    kept_next g.L.Revision.machine g.L.Revision.ends c.args.seat.now.place.me.0.seat
    c.fork_and_keep.new.seat.place.me.0.seat
    c.args.joinee c.args.number c.in-Ok-fork_and_keep.child l c.in-Ok.child c.in-Ok-fork_and_keep.kept
    (g.L.Legs.forker c.args.at) f
    (c.requires.event.2 ∙ ap (Bears (g.L.Legs.forker c.args.at)) (sym c.in-Ok.ensures.child)) in
    let told = c.told-runner-in-Ok-fork_and_keep.ensures in (
      (
        subst (HasState g.L.Revision.machine g.L.Revision.ends c.fork_and_keep.new.seat.place.me.0.seat c.args.number)
            (sym (told.state ∙ c.in-Ok.ensures.parent c.in-Ok-fork_and_keep.child)) next.0,
        next.1,
      ),
      told.group ∙ (c.in-Ok.ensures.parent_group ∙ (sym c.requires.hand.0 ∙ sym same.1)),
    )

pub returns-in-Ok-fork_and_keep-clause-same : goal.returns-in-Ok-fork_and_keep-clause-same
returns-in-Ok-fork_and_keep-clause-same g c =
    let l = c.requires.event.0 in
    kept_same g.L.Revision.machine g.L.Revision.ends c.args.seat.now.place.me.0.seat
    c.fork_and_keep.new.seat.place.me.0.seat
    c.args.joinee c.args.number c.in-Ok-fork_and_keep.child l c.in-Ok.child c.in-Ok-fork_and_keep.kept
    (c.in-Ok-fork_and_keep.ensures.ok l c.requires.event.1)

pub returns-in-Ok-fork_and_keep-clause-hand : goal.returns-in-Ok-fork_and_keep-clause-hand
returns-in-Ok-fork_and_keep-clause-hand g c =
    let l = c.requires.event.0 in
    hand_after g.L.Legs.begins g.L.Legs.hand_group c.args.seat.now.place.me.0.seat
    c.fork_and_keep.new.seat.place.me.0.seat
    c.args.hand.now c.split.new.hand c.requires.hand c.split.ensures.hand
    (kept_same g.L.Revision.machine g.L.Revision.ends c.args.seat.now.place.me.0.seat
    c.fork_and_keep.new.seat.place.me.0.seat
    c.args.joinee c.args.number c.in-Ok-fork_and_keep.child l c.in-Ok.child c.in-Ok-fork_and_keep.kept
    (c.in-Ok-fork_and_keep.ensures.ok l c.requires.event.1))

pub returns-in-Ok-fork_and_keep-clause-only : goal.returns-in-Ok-fork_and_keep-clause-only
returns-in-Ok-fork_and_keep-clause-only g c = λ pair.
    let l = c.requires.event.0 in
    kept_pair g.L.Revision.machine g.L.Revision.ends c.args.seat.now.place.me.0.seat
    c.fork_and_keep.new.seat.place.me.0.seat
    c.args.joinee c.args.number c.in-Ok-fork_and_keep.child l c.in-Ok.child c.in-Ok-fork_and_keep.kept
    (c.in-Ok-fork_and_keep.ensures.ok l c.requires.event.1) pair

pub returns-in-Err-fork_and_keep-clause-same : goal.returns-in-Err-fork_and_keep-clause-same
returns-in-Err-fork_and_keep-clause-same g c =
    halted_same g.L.Revision.machine g.L.Revision.ends c.args.seat.now.place.me.0.seat
    c.fork_and_keep.new.seat.place.me.0.seat
    c.args.joinee c.args.number c.requires.event.0
    (c.in-Err-fork_and_keep.ensures.err.1 c.requires.event.0 c.requires.event.1)

pub returns-in-Err-fork_and_keep-clause-hand : goal.returns-in-Err-fork_and_keep-clause-hand
returns-in-Err-fork_and_keep-clause-hand g c =
    let same = halted_same g.L.Revision.machine g.L.Revision.ends c.args.seat.now.place.me.0.seat
    c.fork_and_keep.new.seat.place.me.0.seat
    c.args.joinee c.args.number c.requires.event.0
    (c.in-Err-fork_and_keep.ensures.err.1 c.requires.event.0 c.requires.event.1) in
    let one = hand_on g.L.Legs.begins g.L.Legs.hand_group c.args.seat.now.place.me.0.seat c.args.hand.now
    c.split.new.hand
    c.requires.hand c.split.ensures.hand in
    hand_after g.L.Legs.begins g.L.Legs.hand_group c.args.seat.now.place.me.0.seat
    c.fork_and_keep.new.seat.place.me.0.seat
    c.split.new.hand c.give_up_split-in-Err-fork_and_keep.new.hand one c.give_up_split-in-Err-fork_and_keep.ensures same

pub returns-in-Err-fork_and_keep-clause-only : goal.returns-in-Err-fork_and_keep-clause-only
returns-in-Err-fork_and_keep-clause-only g c = λ pair.
    halted_in g.L.Revision.machine g.L.Revision.ends c.args.seat.now.place.me.0.seat
    c.fork_and_keep.new.seat.place.me.0.seat
    c.args.joinee c.args.number c.requires.event.0
    (c.in-Err-fork_and_keep.ensures.err.1 c.requires.event.0 c.requires.event.1)
