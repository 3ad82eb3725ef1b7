-- Answers of TurnHub::take_joinee: the plan changes nothing else of the value.
use Rattle.turn_hub.proofs.Values.{same_plan, in_same}
use Rattle.turn_hub.proofs.hub.TurnHub.take_joinee.Goals as goal

pub run_planned-requires-clause-told : goal.run_planned-requires-clause-told
run_planned-requires-clause-told g c =
    let m = g.L.Revision.machine in
    let ends = g.L.Revision.ends in
    let v = c.args.place.now.me.0 in
    let old = c.args.desk.value in
    let held = c.deref_mut-held.result.now in
    let is = c.deref_mut-held.ensures.value in
    let desk = record held { plan = c.plan_draw.new.plan } in
    let same = same_plan old held c.plan_draw.new.plan is in
    let told = c.requires.told in (told.0, in_same m ends told.0 v old desk told.1 same)

pub returns-clause-answer : goal.returns-clause-answer
returns-clause-answer g c =
    let m = g.L.Revision.machine in
    let ends = g.L.Revision.ends in
    let v = c.args.place.now.me.0 in
    let old = c.args.desk.value in
    let held = c.deref_mut-held.result.now in
    let is = c.deref_mut-held.ensures.value in
    let desk = record held { plan = c.plan_draw.new.plan } in
    let same = same_plan old held c.plan_draw.new.plan is in
    λ v0 a h on. c.run_planned.ensures.answer v0 a (in_same m ends v0 v old desk h same) on
