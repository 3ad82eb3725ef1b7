-- Answers of TurnHub::end_on: there is room for both entries, and what comes first is read before the plan.
use Rattle.std.proofs.Common.{refl, ◌∙◌}
use Rattle.turn_hub.proofs.Values.{same_room, hand_same, in_same}
use Rattle.turn_hub.proofs.Finding.{pass_on}
use Rattle.turn_hub.proofs.Ends.{end_pass}
use Rattle.turn_hub.proofs.EndsOn.{next_read}
use Rattle.turn_hub.proofs.hub.TurnHub.end_on.Goals as goal

pub coming_after-coming-requires-clause-reach : goal.coming_after-coming-requires-clause-reach
coming_after-coming-requires-clause-reach g c =
    let m = g.L.Revision.machine in
    let ends = g.L.Revision.ends in
    let v = c.args.place.now.me.0 in
    let old = c.args.desk.value in
    let held = c.deref_mut-held.result.now in
    let is = c.deref_mut-held.ensures.value in
    let k = c.args.of in
    let e = c.args.end in
    let b = g.L.Revision.by_join e in
    let room = c.reserve.ensures.same in
    let told = c.requires.told in
    let p = pass_on m ends told.0.seat v.seat k told.1.same.1 told.1.same.3
    (end_pass m ends b told.0.seat k e told.2) in
    let bare = same_room old held c.reserve.new.self held.plan is room.0 room.1 in
    let kept = record held { journal = c.reserve.new.self } in
    (next_read m ends v kept (hand_same m ends v old kept told.1.hand bare)
    (bare.state ∙ c.requires.free) c.requires.mine b k e p).0

pub coming_after-coming-requires-clause-first : goal.coming_after-coming-requires-clause-first
coming_after-coming-requires-clause-first g c =
    let m = g.L.Revision.machine in
    let ends = g.L.Revision.ends in
    let v = c.args.place.now.me.0 in
    let old = c.args.desk.value in
    let held = c.deref_mut-held.result.now in
    let is = c.deref_mut-held.ensures.value in
    let k = c.args.of in
    let e = c.args.end in
    let b = g.L.Revision.by_join e in
    let room = c.reserve.ensures.same in
    let told = c.requires.told in
    let p = pass_on m ends told.0.seat v.seat k told.1.same.1 told.1.same.3
    (end_pass m ends b told.0.seat k e told.2) in
    let bare = same_room old held c.reserve.new.self held.plan is room.0 room.1 in
    let kept = record held { journal = c.reserve.new.self } in
    (next_read m ends v kept (hand_same m ends v old kept told.1.hand bare)
    (bare.state ∙ c.requires.free) c.requires.mine b k e p).1

pub put_home_halted-requires-clause-hand : goal.put_home_halted-requires-clause-hand
put_home_halted-requires-clause-hand g c =
    let m = g.L.Revision.machine in
    let ends = g.L.Revision.ends in
    let v = c.args.place.now.me.0 in
    let old = c.args.desk.value in
    let held = c.deref_mut-held.result.now in
    let is = c.deref_mut-held.ensures.value in
    let room = c.reserve.ensures.same in
    let told = c.requires.told in
    let bare = same_room old held c.reserve.new.self held.plan is room.0 room.1 in
    let kept = record held { journal = c.reserve.new.self } in
    hand_same m ends v old kept told.1.hand bare

pub returns-then-not-reserve-clause-err : goal.returns-then-not-reserve-clause-err
returns-then-not-reserve-clause-err g c =
    let m = g.L.Revision.machine in
    let ends = g.L.Revision.ends in
    let v = c.args.place.now.me.0 in
    let old = c.args.desk.value in
    let held = c.deref_mut-held.result.now in
    let is = c.deref_mut-held.ensures.value in
    let room = c.reserve.ensures.same in
    let bare = same_room old held c.reserve.new.self held.plan is room.0 room.1 in
    let kept = record held { journal = c.reserve.new.self } in
    (refl, λ v0 h. c.put_home_halted.ensures.halted v0 (in_same m ends v0 v old kept h bare))

pub stop_planned-requires-clause-told : goal.stop_planned-requires-clause-told
stop_planned-requires-clause-told g c =
    let m = g.L.Revision.machine in
    let ends = g.L.Revision.ends in
    let v = c.args.place.now.me.0 in
    let old = c.args.desk.value in
    let held = c.deref_mut-held.result.now in
    let is = c.deref_mut-held.ensures.value in
    let room = c.reserve.ensures.same in
    let told = c.requires.told in
    let desk = record held { journal = c.reserve.new.self; plan = c.plan_end_on.new.plan } in
    let same = same_room old held c.reserve.new.self c.plan_end_on.new.plan is room.0 room.1 in
    (told.0, in_same m ends told.0 v old desk told.1 same, told.2)

pub end_planned-requires-clause-told : goal.end_planned-requires-clause-told
end_planned-requires-clause-told g c =
    let m = g.L.Revision.machine in
    let ends = g.L.Revision.ends in
    let v = c.args.place.now.me.0 in
    let old = c.args.desk.value in
    let held = c.deref_mut-held.result.now in
    let is = c.deref_mut-held.ensures.value in
    let room = c.reserve.ensures.same in
    let told = c.requires.told in
    let desk = record held { journal = c.reserve.new.self; plan = c.plan_end_on.new.plan } in
    let same = same_room old held c.reserve.new.self c.plan_end_on.new.plan is room.0 room.1 in
    (told.0, in_same m ends told.0 v old desk told.1 same, told.2)

pub end_planned-requires-in-Takes-clause-told : goal.end_planned-requires-in-Takes-clause-told
end_planned-requires-in-Takes-clause-told g c =
    let m = g.L.Revision.machine in
    let ends = g.L.Revision.ends in
    let v = c.args.place.now.me.0 in
    let old = c.args.desk.value in
    let held = c.deref_mut-held.result.now in
    let is = c.deref_mut-held.ensures.value in
    let room = c.reserve.ensures.same in
    let told = c.requires.told in
    let desk = record held { journal = c.reserve.new.self; plan = c.plan_end_on.new.plan } in
    let same = same_room old held c.reserve.new.self c.plan_end_on.new.plan is room.0 room.1 in
    (told.0, in_same m ends told.0 v old desk told.1 same, told.2)

pub end_planned-requires-in-Claims-clause-told : goal.end_planned-requires-in-Claims-clause-told
end_planned-requires-in-Claims-clause-told g c =
    let m = g.L.Revision.machine in
    let ends = g.L.Revision.ends in
    let v = c.args.place.now.me.0 in
    let old = c.args.desk.value in
    let held = c.deref_mut-held.result.now in
    let is = c.deref_mut-held.ensures.value in
    let room = c.reserve.ensures.same in
    let told = c.requires.told in
    let desk = record held { journal = c.reserve.new.self; plan = c.plan_end_on.new.plan } in
    let same = same_room old held c.reserve.new.self c.plan_end_on.new.plan is room.0 room.1 in
    (told.0, in_same m ends told.0 v old desk told.1 same, told.2)

pub returns-in-Stops-clause-ok : goal.returns-in-Stops-clause-ok
returns-in-Stops-clause-ok g c =
    let m = g.L.Revision.machine in
    let ends = g.L.Revision.ends in
    let v = c.args.place.now.me.0 in
    let old = c.args.desk.value in
    let held = c.deref_mut-held.result.now in
    let is = c.deref_mut-held.ensures.value in
    let room = c.reserve.ensures.same in
    let desk = record held { journal = c.reserve.new.self; plan = c.plan_end_on.new.plan } in
    let same = same_room old held c.reserve.new.self c.plan_end_on.new.plan is room.0 room.1 in
    λ v0 h. c.stop_planned.ensures.answer v0 (in_same m ends v0 v old desk h same)

pub returns-in-Nobody-clause-ok : goal.returns-in-Nobody-clause-ok
returns-in-Nobody-clause-ok g c =
    let m = g.L.Revision.machine in
    let ends = g.L.Revision.ends in
    let v = c.args.place.now.me.0 in
    let old = c.args.desk.value in
    let held = c.deref_mut-held.result.now in
    let is = c.deref_mut-held.ensures.value in
    let room = c.reserve.ensures.same in
    let desk = record held { journal = c.reserve.new.self; plan = c.plan_end_on.new.plan } in
    let same = same_room old held c.reserve.new.self c.plan_end_on.new.plan is room.0 room.1 in
    λ v0 h. c.end_planned.ensures.answer v0 (in_same m ends v0 v old desk h same)

pub returns-in-Takes-clause-ok : goal.returns-in-Takes-clause-ok
returns-in-Takes-clause-ok g c =
    let m = g.L.Revision.machine in
    let ends = g.L.Revision.ends in
    let v = c.args.place.now.me.0 in
    let old = c.args.desk.value in
    let held = c.deref_mut-held.result.now in
    let is = c.deref_mut-held.ensures.value in
    let room = c.reserve.ensures.same in
    let desk = record held { journal = c.reserve.new.self; plan = c.plan_end_on.new.plan } in
    let same = same_room old held c.reserve.new.self c.plan_end_on.new.plan is room.0 room.1 in
    λ v0 h. c.end_planned-in-Takes.ensures.answer v0 (in_same m ends v0 v old desk h same)

pub returns-in-Claims-clause-ok : goal.returns-in-Claims-clause-ok
returns-in-Claims-clause-ok g c =
    let m = g.L.Revision.machine in
    let ends = g.L.Revision.ends in
    let v = c.args.place.now.me.0 in
    let old = c.args.desk.value in
    let held = c.deref_mut-held.result.now in
    let is = c.deref_mut-held.ensures.value in
    let room = c.reserve.ensures.same in
    let desk = record held { journal = c.reserve.new.self; plan = c.plan_end_on.new.plan } in
    let same = same_room old held c.reserve.new.self c.plan_end_on.new.plan is room.0 room.1 in
    λ v0 h. c.end_planned-in-Claims.ensures.answer v0 (in_same m ends v0 v old desk h same)
