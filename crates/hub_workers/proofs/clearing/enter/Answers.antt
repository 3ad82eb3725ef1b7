-- Answers of enter: once what stands behind it is entered the revision is at its event, and alone with the seat.
use Rattle.std.proofs.Common.{rules, ◌≡◌, true}
use Rattle.hub_workers.specs.declared.legs.LegEvent.TheVariants as event
use Rattle.hub_workers.specs.Legs.{ComesTo}
use Rattle.hub_workers.proofs.Events.{joins_leg}
use Rattle.hub_workers.proofs.Owing.{ends_here}
use Rattle.hub_workers.proofs.clearing.enter.Goals as goal

pub fork-requires-clause-forks : goal.fork-requires-clause-forks
fork-requires-clause-forks g c =
    let by : c.clear.result ≡ true = search rules in
    let r = c.requires.comes in
    let comes : ComesTo g.L.Revision.machine g.L.Revision.ends g.L.Revision.by_join g.L.Legs.forker g.L.Legs.child r.0
    (event.Fork c.in-Fork.at) = search rules in
    (r.0, c.clear.ensures.state by r.0 r.1, comes)

pub join-requires-clause-event : goal.join-requires-clause-event
join-requires-clause-event g c =
    let by : c.clear.result ≡ true = search rules in
    let r = c.requires.comes in
    let comes : ComesTo g.L.Revision.machine g.L.Revision.ends g.L.Revision.by_join g.L.Legs.forker g.L.Legs.child r.0
    (event.Join c.in-Join.at) = search rules in
    joins_leg g.L.Revision.machine g.L.Revision.ends c.clear.new.seat.place.me.0.seat c.args.number r.0 c.in-Join.at
    (c.clear.ensures.state by r.0 r.1) comes

pub hand_in-requires-clause-event : goal.hand_in-requires-clause-event
hand_in-requires-clause-event g c =
    let by : c.clear.result ≡ true = search rules in
    let r = c.requires.comes in
    let comes : ComesTo g.L.Revision.machine g.L.Revision.ends g.L.Revision.by_join g.L.Legs.forker g.L.Legs.child r.0
    (event.End c.in-End.end) = search rules in
    ends_here g.L.Revision.machine g.L.Revision.ends g.L.Revision.by_join c.clear.new.seat.place.me.0.seat c.args.number
    r.0
    c.in-End.end (c.clear.ensures.state by r.0 r.1) comes

pub returns-in-Fork-clause-only : goal.returns-in-Fork-clause-only
returns-in-Fork-clause-only g c = λ only.
    let by : c.clear.result ≡ true = search rules in c.fork.ensures.only (c.clear.ensures.only by only)

pub returns-in-Join-clause-only : goal.returns-in-Join-clause-only
returns-in-Join-clause-only g c = λ only.
    let by : c.clear.result ≡ true = search rules in c.join.ensures.only (c.clear.ensures.only by only)

pub returns-in-End-clause-only : goal.returns-in-End-clause-only
returns-in-End-clause-only g c = λ only.
    let by : c.clear.result ≡ true = search rules in c.hand_in.ensures.only (c.clear.ensures.only by only)
