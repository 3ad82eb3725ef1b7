-- Answers of fork: the split is the leg's fork, so the forker, told its child's number, has the state behind it.
use Rattle.std.proofs.Common.{sym, ap, ◌∙◌}
use Rattle.revision_machine.specs.Numbered.{Bears}
use Rattle.hub_workers.proofs.Events.{forks_leg, hand_on}
use Rattle.hub_workers.proofs.Behinds.{behind_as, behind_of, forked_behind, forked_only, state_of}
use Rattle.hub_workers.proofs.entering.fork.Goals as goal

pub fork-requires-clause-event : goal.fork-requires-clause-event
fork-requires-clause-event g c =
    let r = c.requires.forks in
    forks_leg g.L.Revision.machine g.L.Revision.ends c.args.seat.now.place.me.0.seat c.args.number r.0 c.in-Ok.child
    (g.L.Legs.forker c.args.at)
    (state_of g.L.Revision.machine g.L.Revision.ends c.args.seat.now.place.me.0.seat c.args.number r.0 c.args.behind r.1
    c.requires.may)
    (r.2 ∙ ap (Bears (g.L.Legs.forker c.args.at)) (sym c.in-Ok.ensures.child))

pub give_up_behind-requires : goal.give_up_behind-requires
give_up_behind-requires g c =
    let r = c.requires.forks in
    let of = hand_on g.L.Legs.begins g.L.Legs.hand_group c.args.seat.now.place.me.0.seat c.args.hand.now
    c.split.new.hand
    c.requires.hand c.split.ensures.hand in
    behind_of g.L.Revision.machine g.L.Revision.ends g.L.Legs.begins g.L.Legs.hand_group c.args.seat.now.place.me.0.seat
    c.args.number r.0 c.args.behind c.split.new.hand r.1 of

pub give_up_behind-requires-in-Err : goal.give_up_behind-requires-in-Err
give_up_behind-requires-in-Err g c =
    let r = c.requires.forks in
    let of = hand_on g.L.Legs.begins g.L.Legs.hand_group c.args.seat.now.place.me.0.seat c.args.hand.now
    c.split.new.hand
    c.requires.hand c.split.ensures.hand in
    let still = hand_on g.L.Legs.begins g.L.Legs.hand_group c.args.seat.now.place.me.0.seat c.split.new.hand
    c.give_up_split.new.hand of c.give_up_split.ensures in
    behind_of g.L.Revision.machine g.L.Revision.ends g.L.Legs.begins g.L.Legs.hand_group c.args.seat.now.place.me.0.seat
    c.args.number r.0 c.args.behind c.give_up_split.new.hand r.1 still

pub returns-in-Ok-fork-clause-next : goal.returns-in-Ok-fork-clause-next
returns-in-Ok-fork-clause-next g c =
    let r = c.requires.forks in (
      behind_as g.L.Revision.machine g.L.Revision.ends c.fork.new.seat.place.me.0.seat c.args.number
          (g.L.Legs.forker c.args.at c.in-Ok-fork.child) (g.L.Revision.machine.runs c.told-runner.result) c.args.behind
          (forked_behind g.L.Revision.machine g.L.Revision.ends c.args.seat.now.place.me.0.seat
          c.fork.new.seat.place.me.0.seat
          c.args.number c.in-Ok-fork.child r.0 c.args.behind c.in-Ok.child (g.L.Legs.forker c.args.at) r.1
          c.requires.may
          (r.2 ∙ ap (Bears (g.L.Legs.forker c.args.at)) (sym c.in-Ok.ensures.child)) c.in-Ok-fork.ensures.ok)
          (c.told-runner.ensures.state ∙ c.in-Ok.ensures.parent c.in-Ok-fork.child),
      c.told-runner.ensures.group
          ∙ (c.in-Ok.ensures.parent_group ∙ (sym c.requires.hand.0 ∙ sym c.in-Ok-fork.ensures.ok.keeps.0.1)),
    )

pub returns-in-Ok-fork-clause-only : goal.returns-in-Ok-fork-clause-only
returns-in-Ok-fork-clause-only g c =
    forked_only c.args.seat.now.place.me.0.seat c.fork.new.seat.place.me.0.seat c.args.number c.args.behind
    c.in-Ok-fork.ensures.ok.keeps c.requires.may
