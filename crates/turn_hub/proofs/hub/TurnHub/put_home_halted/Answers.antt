-- Answers of TurnHub::put_home_halted: a value without a halt gets one for want of memory, and then goes home.
use Rattle.std.proofs.Common.{rules, ◌≡◌, ◌≢◌, [], None, refl, sym, ap, ◌∙◌, arith}
use Rattle.hub_core.specs.declared.state.HubState.TheVariants.{All, NoMemory}
use Rattle.turn_hub.specs.Plans.{HasPlan}
use Rattle.turn_hub.proofs.Values.{same_plan, hand_same, in_same}
use Rattle.turn_hub.proofs.Halting.{can_halt, halted_hand, halted_now, halted_rests, halted_some, was_halted}
use Rattle.turn_hub.proofs.hub.TurnHub.put_home_halted.Goals as goal

pub halt_no_memory-desk-requires-clause-can : goal.halt_no_memory-desk-requires-clause-can
halt_no_memory-desk-requires-clause-can g c =
    let held = c.deref_mut-held.result.now in
    let desk = record held { plan = c.clear.new.self } in
    let same = same_plan c.args.desk.value held c.clear.new.self c.deref_mut-held.ensures.value in
    let v = c.args.place.now.me.0 in
    let hand =
    hand_same g.L.Revision.machine g.L.Revision.ends v c.args.desk.value desk c.requires.hand same in
    let free : held.state ≡ All = search rules in
    let e = c.clear.ensures in
    let plan : HasPlan desk [] None None = (e.0, e.2, e.3) in
    can_halt g.L.Revision.machine g.L.Revision.ends v desk hand free plan

pub put_home-requires-2-clause-hand : goal.put_home-requires-2-clause-hand
put_home-requires-2-clause-hand g c =
    let held = c.deref_mut-held.result.now in
    let desk = record held { plan = c.clear.new.self } in
    let same = same_plan c.args.desk.value held c.clear.new.self c.deref_mut-held.ensures.value in
    let v = c.args.place.now.me.0 in
    let hand =
    hand_same g.L.Revision.machine g.L.Revision.ends v c.args.desk.value desk c.requires.hand same in
    let free : held.state ≡ All = search rules in
    let e = c.clear.ensures in
    let plan : HasPlan desk [] None None = (e.0, e.2, e.3) in
    let last = c.deref_mut-last.result.now in
    let is = c.deref_mut-last.ensures.value ∙ ap (λ b. b.value) c.halt_no_memory-desk.ensures.same in
    halted_hand g.L.Revision.machine g.L.Revision.ends v desk hand free c.halt_no_memory-desk.new.place.me.0
    (record last { state = NoMemory }) plan c.halt_no_memory-desk.ensures.shut (ap (λ x. x.journal) is)
    (ap (λ x. x.records) is) (ap (λ x. x.lent) is) (ap (λ x. x.strays) is) refl

pub returns-clause-rests : goal.returns-clause-rests
returns-clause-rests g c =
    let held = c.deref_mut-held.result.now in
    let desk = record held { plan = c.clear.new.self } in
    let same = same_plan c.args.desk.value held c.clear.new.self c.deref_mut-held.ensures.value in
    let v = c.args.place.now.me.0 in
    let hand =
    hand_same g.L.Revision.machine g.L.Revision.ends v c.args.desk.value desk c.requires.hand same in
    let free : held.state ≡ All = search rules in
    let e = c.clear.ensures in
    let plan : HasPlan desk [] None None = (e.0, e.2, e.3) in
    let is = c.put_home-2.ensures.rests in
    let r =
    halted_rests g.L.Revision.machine g.L.Revision.ends v desk hand free c.halt_no_memory-desk.new.place.me.0
    c.put_home-2.new.place.me.0 plan c.halt_no_memory-desk.ensures.shut (ap (λ m. m.0) is) in
    let limit = r.3 in
    (ap (λ m. m.0.seat.has) is, ap (λ m. m.1) is, r.0, r.1, r.2, omega arith)

pub returns-clause-mine : goal.returns-clause-mine
returns-clause-mine g c =
    let held = c.deref_mut-held.result.now in
    let desk = record held { plan = c.clear.new.self } in
    let same = same_plan c.args.desk.value held c.clear.new.self c.deref_mut-held.ensures.value in
    let v = c.args.place.now.me.0 in
    let hand =
    hand_same g.L.Revision.machine g.L.Revision.ends v c.args.desk.value desk c.requires.hand same in
    let free : held.state ≡ All = search rules in
    let e = c.clear.ensures in
    let plan : HasPlan desk [] None None = (e.0, e.2, e.3) in
    (halted_rests g.L.Revision.machine g.L.Revision.ends v desk hand free c.halt_no_memory-desk.new.place.me.0
    c.put_home-2.new.place.me.0 plan c.halt_no_memory-desk.ensures.shut
    (ap (λ m. m.0) c.put_home-2.ensures.rests)).4

pub returns-clause-halted : goal.returns-clause-halted
returns-clause-halted g c = λ v0 h.
    let held = c.deref_mut-held.result.now in
    let desk = record held { plan = c.clear.new.self } in
    let same = same_plan c.args.desk.value held c.clear.new.self c.deref_mut-held.ensures.value in
    let v = c.args.place.now.me.0 in
    let hand =
    hand_same g.L.Revision.machine g.L.Revision.ends v c.args.desk.value desk c.requires.hand same in
    let free : held.state ≡ All = search rules in
    let e = c.clear.ensures in
    let plan : HasPlan desk [] None None = (e.0, e.2, e.3) in
    halted_now g.L.Revision.machine g.L.Revision.ends v desk hand free v0 c.halt_no_memory-desk.new.place.me.0
    c.put_home-2.new.place.me.0
    (in_same g.L.Revision.machine g.L.Revision.ends v0 v c.args.desk.value desk h same) plan
    c.halt_no_memory-desk.ensures.shut (ap (λ m. m.0) c.put_home-2.ensures.rests)

pub returns-then-is_some-clause-halted : goal.returns-then-is_some-clause-halted
returns-then-is_some-clause-halted g c = λ v0 h.
    let some : c.deref_mut-held.result.now.state ≢ All =
    halted_some c.halted.result c.deref_mut-held.result.now.state c.halted.ensures (sym c.is_some.ensures ∙
    c.if-is_some.true) in
    was_halted g.L.Revision.machine g.L.Revision.ends v0 c.args.place.now.me.0 c.put_home.new.place.me.0
    c.args.desk.value h (λ q. some (ap (λ x. x.state) c.deref_mut-held.ensures.value ∙ q))
    (ap (λ m. m.0) c.put_home.ensures.rests)
