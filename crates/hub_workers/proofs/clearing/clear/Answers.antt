-- Answers of clear: the revision has the same pass once its child or its joiner is handed in,
-- or what it owes is entered.
use Rattle.std.proofs.Common.{subst}
use Rattle.hub_workers.specs.Work.{HasBehind}
use Rattle.hub_workers.specs.Handed.{OnlyBehind}
use Rattle.hub_workers.proofs.Children.{back_alone, back_state}
use Rattle.hub_workers.proofs.Events.{hand_stays}
use Rattle.hub_workers.proofs.Handed.{unless_halted}
use Rattle.hub_workers.proofs.Owing.{has_joinee, left_alone, left_state, settled_alone, settled_or_not, settled_state}
use Rattle.hub_workers.proofs.clearing.clear.Goals as goal

pub settle-requires-clause-event : goal.settle-requires-clause-event
settle-requires-clause-event g c =
    let r = c.requires.state in
    let o = subst (HasBehind g.L.Revision.machine g.L.Revision.ends c.args.seat.now.place.me.0.seat c.args.number r.0)
    c.in-Owing.is r.1 in
    (r.0, o.owes)

pub returns-in-Owing-clause-same : goal.returns-in-Owing-clause-same
returns-in-Owing-clause-same g c =
    let r = c.requires.state in
    let o = subst (HasBehind g.L.Revision.machine g.L.Revision.ends c.args.seat.now.place.me.0.seat c.args.number r.0)
    c.in-Owing.is r.1 in
    settled_or_not g.L.Revision.machine g.L.Revision.ends c.args.seat.now.place.me.0.seat
    c.settle.new.seat.place.me.0.seat
    c.in-Owing.joinee c.args.number r.0 c.settle.result (λ by. c.settle.ensures.done by r.0 o.owes)
    c.settle.ensures.halted

pub returns-in-Owing-clause-hand : goal.returns-in-Owing-clause-hand
returns-in-Owing-clause-hand g c =
    let r = c.requires.state in
    let o = subst (HasBehind g.L.Revision.machine g.L.Revision.ends c.args.seat.now.place.me.0.seat c.args.number r.0)
    c.in-Owing.is r.1 in
    hand_stays g.L.Legs.begins g.L.Legs.hand_group c.args.seat.now.place.me.0.seat c.settle.new.seat.place.me.0.seat
    c.args.hand.now c.requires.hand
    (settled_or_not g.L.Revision.machine g.L.Revision.ends c.args.seat.now.place.me.0.seat
    c.settle.new.seat.place.me.0.seat
    c.in-Owing.joinee c.args.number r.0 c.settle.result (λ by. c.settle.ensures.done by r.0 o.owes)
    c.settle.ensures.halted)

pub returns-in-Owing-clause-state : goal.returns-in-Owing-clause-state
returns-in-Owing-clause-state g c = λ by l h.
    let o = subst (HasBehind g.L.Revision.machine g.L.Revision.ends c.args.seat.now.place.me.0.seat c.args.number l)
    c.in-Owing.is h in
    settled_state g.L.Revision.machine g.L.Revision.ends c.args.seat.now.place.me.0.seat
    c.settle.new.seat.place.me.0.seat
    c.in-Owing.joinee c.args.number l (c.settle.ensures.done by l o.owes)

pub returns-in-Owing-clause-only : goal.returns-in-Owing-clause-only
returns-in-Owing-clause-only g c = λ by only.
    let r = c.requires.state in
    let o = subst (HasBehind g.L.Revision.machine g.L.Revision.ends c.args.seat.now.place.me.0.seat c.args.number r.0)
    c.in-Owing.is r.1 in
    settled_alone g.L.Revision.machine g.L.Revision.ends c.args.seat.now.place.me.0.seat
    c.settle.new.seat.place.me.0.seat
    c.in-Owing.joinee c.args.number r.0 (c.settle.ensures.done by r.0 o.owes)
    (subst (OnlyBehind c.args.seat.now.place.me.0.seat c.args.number) c.in-Owing.is only)

pub returns-in-Owing-clause-halted : goal.returns-in-Owing-clause-halted
returns-in-Owing-clause-halted g c = λ by. unless_halted _ _ (c.settle.ensures.halted by)

pub returns-in-Ok-clause-state : goal.returns-in-Ok-clause-state
returns-in-Ok-clause-state g c = λ by l h.
    let o = subst (HasBehind g.L.Revision.machine g.L.Revision.ends c.args.seat.now.place.me.0.seat c.args.number l)
    c.in-Kept.is h in
    back_state g.L.Revision.machine g.L.Revision.ends c.args.seat.now.place.me.0.seat
    c.give_back.new.seat.place.me.0.seat
    c.in-Kept.child c.args.number l c.in-Kept.kept o.1 c.in-Ok.ensures.ok o.0

pub returns-in-Ok-clause-only : goal.returns-in-Ok-clause-only
returns-in-Ok-clause-only g c = λ by only.
    back_alone g.L.Revision.machine g.L.Revision.ends c.args.seat.now.place.me.0.seat
    c.give_back.new.seat.place.me.0.seat
    c.in-Kept.child c.args.number c.in-Ok.ensures.ok
    (subst (OnlyBehind c.args.seat.now.place.me.0.seat c.args.number) c.in-Kept.is only)

pub leave-requires-clause-joinee : goal.leave-requires-clause-joinee
leave-requires-clause-joinee g c =
    let r = c.requires.state in
    let o = subst (HasBehind g.L.Revision.machine g.L.Revision.ends c.args.seat.now.place.me.0.seat c.args.number r.0)
    c.in-Joiner.is r.1 in
    has_joinee g.L.Revision.machine g.L.Revision.ends c.args.seat.now.place.me.0.seat c.args.number c.in-Joiner.joiner
    r.0
    c.in-Joiner.at o.1 o.0

pub returns-in-Ok-leave-clause-state : goal.returns-in-Ok-leave-clause-state
returns-in-Ok-leave-clause-state g c = λ by l h.
    let o = subst (HasBehind g.L.Revision.machine g.L.Revision.ends c.args.seat.now.place.me.0.seat c.args.number l)
    c.in-Joiner.is h in
    left_state g.L.Revision.machine g.L.Revision.ends c.args.seat.now.place.me.0.seat c.leave.new.seat.place.me.0.seat
    c.args.number c.in-Joiner.joiner l c.in-Joiner.at o.1 c.in-Ok-leave.ensures.ok o.0

pub returns-in-Ok-leave-clause-only : goal.returns-in-Ok-leave-clause-only
returns-in-Ok-leave-clause-only g c = λ by only.
    left_alone g.L.Revision.machine g.L.Revision.ends c.args.seat.now.place.me.0.seat c.leave.new.seat.place.me.0.seat
    c.args.number c.in-Joiner.joiner c.in-Joiner.at c.in-Ok-leave.ensures.ok
    (subst (OnlyBehind c.args.seat.now.place.me.0.seat c.args.number) c.in-Joiner.is only)
