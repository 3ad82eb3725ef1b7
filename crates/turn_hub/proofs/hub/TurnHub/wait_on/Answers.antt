-- Answers of TurnHub::wait_on: the plan changes nothing else of the value.
use Rattle.std.proofs.Common.{sym, subst}
use Rattle.turn_hub.specs.Joinings.{IsOpenIn}
use Rattle.turn_hub.proofs.Values.{same_plan, in_same, in_slots}
use Rattle.turn_hub.proofs.hub.TurnHub.wait_on.Goals as goal

pub wait_planned-requires-clause-told : goal.wait_planned-requires-clause-told
wait_planned-requires-clause-told g c =
    let m = g.L.Revision.machine in
    let ends = g.L.Revision.ends in
    let v = c.args.place.now.me.0 in
    let old = c.args.desk.value in
    let held = c.deref_mut-held.result.now in
    let is = c.deref_mut-held.ensures.value in
    let desk = record held { plan = c.plan_wait.new.plan } in
    let same = same_plan old held c.plan_wait.new.plan is in
    let told = c.requires.told in (
      told.0,
      in_same m ends told.0 v old desk told.1 same,
      told.2,
      subst (λ s. IsOpenIn m ends v s (m.on c.args.at)) (sym (in_slots m ends told.0 v old desk told.1 same)) told.3,
    )

pub returns-clause-answer : goal.returns-clause-answer
returns-clause-answer g c =
    let m = g.L.Revision.machine in
    let ends = g.L.Revision.ends in
    let v = c.args.place.now.me.0 in
    let old = c.args.desk.value in
    let held = c.deref_mut-held.result.now in
    let is = c.deref_mut-held.ensures.value in
    let desk = record held { plan = c.plan_wait.new.plan } in
    let same = same_plan old held c.plan_wait.new.plan is in
    λ v0 h. c.wait_planned.ensures.answer v0 (in_same m ends v0 v old desk h same)
