-- Answers of TurnHub::count_in: a plan of no deeds leaves the value as it is, and tells the number of revisions.
use Rattle.std.proofs.Common.{◌≡◌, [], None, sym, ap, ◌∙◌, subst, length}
use Rattle.hub_core.specs.declared.state.HubState.TheVariants.{All}
use Rattle.hub_core.specs.Tally.{HasDesk}
use Rattle.turn_hub.specs.Turns.{IsIn}
use Rattle.turn_hub.specs.Plans.{HasPlan, SameValue}
use Rattle.turn_hub.proofs.Values.{same_plan, hand_same, in_same}
use Rattle.turn_hub.proofs.Seeks.{can_look, look_below, look_count, look_view, look_in}
use Rattle.turn_hub.proofs.hub.TurnHub.count_in.Goals as goal

pub carry_out-desk-requires-clause-can : goal.carry_out-desk-requires-clause-can
carry_out-desk-requires-clause-can g c =
    let m = g.L.Revision.machine in
    let ends = g.L.Revision.ends in
    let v = c.args.place.now.me.0 in
    let old = c.args.desk.value in
    let held = c.deref_mut-held.result.now in
    let desk = record held { plan = c.clear.new.self } in
    let same = same_plan old held c.clear.new.self c.deref_mut-held.ensures.value in
    let hand = hand_same m ends v old desk c.requires.hand same in
    let free : desk.state ≡ All = same.state ∙ c.requires.free in
    let e = c.clear.ensures in
    let plan : HasPlan desk [] None None = (e.0, e.2, e.3) in
    can_look m ends v desk hand free plan

pub counted-requires : goal.counted-requires
counted-requires g c =
    let m = g.L.Revision.machine in
    let ends = g.L.Revision.ends in
    let v = c.args.place.now.me.0 in
    let old = c.args.desk.value in
    let held = c.deref_mut-held.result.now in
    let desk = record held { plan = c.clear.new.self } in
    let same = same_plan old held c.clear.new.self c.deref_mut-held.ensures.value in
    let hand = hand_same m ends v old desk c.requires.hand same in
    let free : desk.state ≡ All = same.state ∙ c.requires.free in
    let e = c.clear.ensures in
    let plan : HasPlan desk [] None None = (e.0, e.2, e.3) in
    let w = c.carry_out-desk.new.place.me.0 in
    let tally = c.carry_out-desk.result.1 in
    let entered = c.carry_out-desk.ensures.entered in
    let is = ap (λ x. x.value) c.carry_out-desk.ensures.same in
    look_below m ends v desk hand free w tally plan entered

pub returns-clause-view : goal.returns-clause-view
returns-clause-view g c =
    let m = g.L.Revision.machine in
    let ends = g.L.Revision.ends in
    let v = c.args.place.now.me.0 in
    let old = c.args.desk.value in
    let held = c.deref_mut-held.result.now in
    let desk = record held { plan = c.clear.new.self } in
    let same = same_plan old held c.clear.new.self c.deref_mut-held.ensures.value in
    let hand = hand_same m ends v old desk c.requires.hand same in
    let free : desk.state ≡ All = same.state ∙ c.requires.free in
    let e = c.clear.ensures in
    let plan : HasPlan desk [] None None = (e.0, e.2, e.3) in
    let w = c.carry_out-desk.new.place.me.0 in
    let tally = c.carry_out-desk.result.1 in
    let entered = c.carry_out-desk.ensures.entered in
    let is = ap (λ x. x.value) c.carry_out-desk.ensures.same in
    look_view m ends v desk hand free w tally plan entered

pub returns-clause-same : goal.returns-clause-same
returns-clause-same g c =
    let m = g.L.Revision.machine in
    let ends = g.L.Revision.ends in
    let v = c.args.place.now.me.0 in
    let old = c.args.desk.value in
    let held = c.deref_mut-held.result.now in
    let desk = record held { plan = c.clear.new.self } in
    let same = same_plan old held c.clear.new.self c.deref_mut-held.ensures.value in
    let hand = hand_same m ends v old desk c.requires.hand same in
    let free : desk.state ≡ All = same.state ∙ c.requires.free in
    let e = c.clear.ensures in
    let plan : HasPlan desk [] None None = (e.0, e.2, e.3) in
    let w = c.carry_out-desk.new.place.me.0 in
    let tally = c.carry_out-desk.result.1 in
    let entered = c.carry_out-desk.ensures.entered in
    let is = ap (λ x. x.value) c.carry_out-desk.ensures.same in
    subst (λ x. SameValue old x) (sym is) same

pub returns-clause-told : goal.returns-clause-told
returns-clause-told g c =
    let m = g.L.Revision.machine in
    let ends = g.L.Revision.ends in
    let v = c.args.place.now.me.0 in
    let old = c.args.desk.value in
    let held = c.deref_mut-held.result.now in
    let desk = record held { plan = c.clear.new.self } in
    let same = same_plan old held c.clear.new.self c.deref_mut-held.ensures.value in
    let hand = hand_same m ends v old desk c.requires.hand same in
    let free : desk.state ≡ All = same.state ∙ c.requires.free in
    let e = c.clear.ensures in
    let plan : HasPlan desk [] None None = (e.0, e.2, e.3) in
    let w = c.carry_out-desk.new.place.me.0 in
    let tally = c.carry_out-desk.result.1 in
    let entered = c.carry_out-desk.ensures.entered in
    let is = ap (λ x. x.value) c.carry_out-desk.ensures.same in
    λ v0 h. subst (λ x. IsIn m ends v0 w x) (sym is)
    (look_in m ends v desk hand free w tally plan entered v0 (in_same m ends v0 v old desk h same))

pub returns-clause-counted : goal.returns-clause-counted
returns-clause-counted g c =
    let m = g.L.Revision.machine in
    let ends = g.L.Revision.ends in
    let v = c.args.place.now.me.0 in
    let old = c.args.desk.value in
    let held = c.deref_mut-held.result.now in
    let desk = record held { plan = c.clear.new.self } in
    let same = same_plan old held c.clear.new.self c.deref_mut-held.ensures.value in
    let hand = hand_same m ends v old desk c.requires.hand same in
    let free : desk.state ≡ All = same.state ∙ c.requires.free in
    let e = c.clear.ensures in
    let plan : HasPlan desk [] None None = (e.0, e.2, e.3) in
    let w = c.carry_out-desk.new.place.me.0 in
    let tally = c.carry_out-desk.result.1 in
    let entered = c.carry_out-desk.ensures.entered in
    let is = ap (λ x. x.value) c.carry_out-desk.ensures.same in
    subst (λ x. (h : HasDesk m ends w x) → c.counted.result ≡ length h.slots) (sym is)
    (λ h. c.counted.ensures ∙ look_count m ends v desk hand free w tally plan entered h)
