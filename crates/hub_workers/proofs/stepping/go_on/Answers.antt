-- Answers of go_on: the thread runs the child that its forker joins, and an end that a joiner stayed for is taken in.
use Rattle.std.proofs.Common.{rules, ◌≡◌, subst}
use Rattle.hub_workers.specs.Legs.{Comes}
use Rattle.hub_workers.specs.Work.{HasBehind}
use Rattle.hub_workers.proofs.Behinds.{kept_stays, taken_as}
use Rattle.hub_workers.proofs.Owing.{leg_ends}
use Rattle.hub_workers.proofs.stepping.go_on.Goals as goal

pub come-requires-clause-answer : goal.come-requires-clause-answer
come-requires-clause-answer g c =
    let r = c.requires.comes in
    let both = subst (HasBehind g.L.Revision.machine g.L.Revision.ends c.args.seat.now.place.me.0.seat c.args.number
    r.0)
    c.in-End-Joiner.is-1 r.1 in
    let comes = subst (Comes g.L.Revision.machine g.L.Revision.ends g.L.Revision.by_join g.L.Legs.forker g.L.Legs.child
    r.0)
    c.in-End-Joiner.is-0 r.2 in
    taken_as g.L.Revision.machine g.L.Revision.ends g.L.Revision.claimed g.L.Revision.stopped
    g.L.Revision.claimed_group g.L.Revision.stopped_group c.args.seat.now.place.me.0.seat c.args.number
    c.in-End-Joiner.joiner c.in-End-Joiner.at c.in-End-Joiner.end c.take_in-answer.result both.1
    (leg_ends g.L.Revision.machine g.L.Revision.ends g.L.Revision.by_join g.L.Legs.forker g.L.Legs.child
    c.args.seat.now.place.me.0.seat c.args.number r.0 c.in-End-Joiner.end both.0 comes) c.take_in-answer.ensures

pub returns-then-on-child-clause-next : goal.returns-then-on-child-clause-next
returns-then-on-child-clause-next g c =
    let r = c.requires.comes in
    let both = subst (HasBehind g.L.Revision.machine g.L.Revision.ends c.args.seat.now.place.me.0.seat c.args.number
    r.0)
    c.in-Join-Kept.is-1 r.1 in
    let comes = subst (Comes g.L.Revision.machine g.L.Revision.ends g.L.Revision.by_join g.L.Legs.forker g.L.Legs.child
    r.0)
    c.in-Join-Kept.is-0 r.2 in
    let on : g.L.Revision.machine.on c.in-Join-Kept.at ≡ c.in-Join-Kept.child = search rules in
    let group : g.L.Revision.machine.joiner_group c.in-Join-Kept.at ≡ c.args.seat.now.place.me.0.seat.group =
    search rules in (
      kept_stays g.L.Revision.machine g.L.Revision.ends c.args.seat.now.place.me.0.seat c.in-Join-Kept.child
          c.args.number r.0
          c.in-Join-Kept.at c.in-Join-Kept.kept both.0 both.1 comes on group,
      both.1.group,
    )
