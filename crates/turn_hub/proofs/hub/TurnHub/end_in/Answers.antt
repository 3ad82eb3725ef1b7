-- Answers of TurnHub::end_in: what the seat has has a record, which gets the end, and nothing else changes.
use Rattle.std.proofs.Common.{◌≡◌, ◌<◌, ℕ, Bool, ◌++◌, None, length, refl, sym, ap, ◌∙◌, subst, arith}
use Rattle.hub_core.specs.declared.status.Status.TheVariants.{Over}
use Rattle.hub_core.specs.declared.state.HubState.TheVariants.{All}
use Rattle.hub_core.specs.Chains.{IsWithin, chain_at, EndsOne}
use Rattle.hub_core.specs.declared.desk.Desk.{Desk}
use Rattle.hub_core.specs.Recorded.{put_record}
use Rattle.hub_core.specs.Rounds.{stamped}
use Rattle.hub_core.specs.Tally.{record_at, pairs, entered as entered_by}
use Rattle.turn_hub.specs.Plans.{HasPlan, end_deeds}
use Rattle.turn_hub.proofs.Values.{same_room, hand_same, in_same}
use Rattle.turn_hub.proofs.Finding.{pass_on}
use Rattle.turn_hub.proofs.Ends.{end_pass, can_end, end_record, end_within, end_count, end_hand, end_says, end_rests}
use Rattle.turn_hub.proofs.hub.TurnHub.end_in.Goals as goal

pub carry_out-desk-requires-clause-can : goal.carry_out-desk-requires-clause-can
carry_out-desk-requires-clause-can g c =
    let m = g.L.Revision.machine in
    let ends = g.L.Revision.ends in
    let v = c.args.place.now.me.0 in
    let old = c.args.desk.value in
    let held = c.deref_mut-held.result.now in
    let desk = record held { journal = c.reserve.new.self; plan = c.plan_end.new.plan } in
    let room = c.reserve.ensures.same in
    let same =
    same_room old held c.reserve.new.self c.plan_end.new.plan c.deref_mut-held.ensures.value room.0 room.1 in
    let told = c.requires.told in
    let hand = hand_same m ends v old desk told.1.hand same in
    let free : desk.state ≡ All = same.state ∙ c.requires.free in
    let b = g.L.Revision.by_join c.args.end in
    let by = c.is_by_join-by_join.ensures in
    let e = c.plan_end.ensures in
    let plan : HasPlan desk (end_deeds b c.args.of) None None =
    (e.0 ∙ ap (λ z. end_deeds z c.args.of) by, e.1, e.2) in
    let first = end_pass m ends b told.0.seat c.args.of c.args.end told.2 in
    let p = pass_on m ends told.0.seat v.seat c.args.of told.1.same.1 told.1.same.3 first in
    can_end m ends v desk hand free c.requires.mine b c.args.of c.args.end p plan

pub counted-requires : goal.counted-requires
counted-requires g c =
    let m = g.L.Revision.machine in
    let ends = g.L.Revision.ends in
    let v = c.args.place.now.me.0 in
    let old = c.args.desk.value in
    let held = c.deref_mut-held.result.now in
    let desk = record held { journal = c.reserve.new.self; plan = c.plan_end.new.plan } in
    let room = c.reserve.ensures.same in
    let same =
    same_room old held c.reserve.new.self c.plan_end.new.plan c.deref_mut-held.ensures.value room.0 room.1 in
    let told = c.requires.told in
    let hand = hand_same m ends v old desk told.1.hand same in
    let free : desk.state ≡ All = same.state ∙ c.requires.free in
    let b = g.L.Revision.by_join c.args.end in
    let by = c.is_by_join-by_join.ensures in
    let e = c.plan_end.ensures in
    let plan : HasPlan desk (end_deeds b c.args.of) None None =
    (e.0 ∙ ap (λ z. end_deeds z c.args.of) by, e.1, e.2) in
    let first = end_pass m ends b told.0.seat c.args.of c.args.end told.2 in
    let p = pass_on m ends told.0.seat v.seat c.args.of told.1.same.1 told.1.same.3 first in
    let w = c.carry_out-desk.new.place.me.0 in
    let count = c.carry_out-desk.result.1 in
    let entered = c.carry_out-desk.ensures.entered in
    let is : c.deref_mut-last.result.now ≡ desk =
    c.deref_mut-last.ensures.value ∙ ap (λ x. x.value) c.carry_out-desk.ensures.same in
    (end_count m ends v desk hand free c.requires.mine b c.args.of c.args.end p w count plan entered).0

pub end-requires-clause-out : goal.end-requires-clause-out
end-requires-clause-out g c =
    let m = g.L.Revision.machine in
    let ends = g.L.Revision.ends in
    let v = c.args.place.now.me.0 in
    let old = c.args.desk.value in
    let held = c.deref_mut-held.result.now in
    let desk = record held { journal = c.reserve.new.self; plan = c.plan_end.new.plan } in
    let room = c.reserve.ensures.same in
    let same =
    same_room old held c.reserve.new.self c.plan_end.new.plan c.deref_mut-held.ensures.value room.0 room.1 in
    let told = c.requires.told in
    let hand = hand_same m ends v old desk told.1.hand same in
    let free : desk.state ≡ All = same.state ∙ c.requires.free in
    let b = g.L.Revision.by_join c.args.end in
    let by = c.is_by_join-by_join.ensures in
    let e = c.plan_end.ensures in
    let plan : HasPlan desk (end_deeds b c.args.of) None None =
    (e.0 ∙ ap (λ z. end_deeds z c.args.of) by, e.1, e.2) in
    let first = end_pass m ends b told.0.seat c.args.of c.args.end told.2 in
    let p = pass_on m ends told.0.seat v.seat c.args.of told.1.same.1 told.1.same.3 first in
    let w = c.carry_out-desk.new.place.me.0 in
    let count = c.carry_out-desk.result.1 in
    let entered = c.carry_out-desk.ensures.entered in
    let is : c.deref_mut-last.result.now ≡ desk =
    c.deref_mut-last.ensures.value ∙ ap (λ x. x.value) c.carry_out-desk.ensures.same in
    ap (λ x. record_at x.records.list.items c.args.of) is ∙ end_record m ends v desk hand free c.requires.mine b
    c.args.of c.args.end p w count plan entered

pub end-requires-clause-within : goal.end-requires-clause-within
end-requires-clause-within g c =
    let m = g.L.Revision.machine in
    let ends = g.L.Revision.ends in
    let v = c.args.place.now.me.0 in
    let old = c.args.desk.value in
    let held = c.deref_mut-held.result.now in
    let desk = record held { journal = c.reserve.new.self; plan = c.plan_end.new.plan } in
    let room = c.reserve.ensures.same in
    let same =
    same_room old held c.reserve.new.self c.plan_end.new.plan c.deref_mut-held.ensures.value room.0 room.1 in
    let told = c.requires.told in
    let hand = hand_same m ends v old desk told.1.hand same in
    let free : desk.state ≡ All = same.state ∙ c.requires.free in
    let b = g.L.Revision.by_join c.args.end in
    let by = c.is_by_join-by_join.ensures in
    let e = c.plan_end.ensures in
    let plan : HasPlan desk (end_deeds b c.args.of) None None =
    (e.0 ∙ ap (λ z. end_deeds z c.args.of) by, e.1, e.2) in
    let first = end_pass m ends b told.0.seat c.args.of c.args.end told.2 in
    let p = pass_on m ends told.0.seat v.seat c.args.of told.1.same.1 told.1.same.3 first in
    let w = c.carry_out-desk.new.place.me.0 in
    let count = c.carry_out-desk.result.1 in
    let entered = c.carry_out-desk.ensures.entered in
    let is : c.deref_mut-last.result.now ≡ desk =
    c.deref_mut-last.ensures.value ∙ ap (λ x. x.value) c.carry_out-desk.ensures.same in
    subst (λ x.
    (c.args.of < length x.records.queue.waiters.items)
    × IsWithin (chain_at x.records.queue.waiters.items c.args.of) (length x.records.queue.links.items))
    (sym is) (end_within m ends v desk hand free c.requires.mine b c.args.of c.args.end p w count plan entered).1

pub end-requires-clause-some : goal.end-requires-clause-some
end-requires-clause-some g c =
    let m = g.L.Revision.machine in
    let ends = g.L.Revision.ends in
    let v = c.args.place.now.me.0 in
    let old = c.args.desk.value in
    let held = c.deref_mut-held.result.now in
    let desk = record held { journal = c.reserve.new.self; plan = c.plan_end.new.plan } in
    let room = c.reserve.ensures.same in
    let same =
    same_room old held c.reserve.new.self c.plan_end.new.plan c.deref_mut-held.ensures.value room.0 room.1 in
    let told = c.requires.told in
    let hand = hand_same m ends v old desk told.1.hand same in
    let free : desk.state ≡ All = same.state ∙ c.requires.free in
    let b = g.L.Revision.by_join c.args.end in
    let by = c.is_by_join-by_join.ensures in
    let e = c.plan_end.ensures in
    let plan : HasPlan desk (end_deeds b c.args.of) None None =
    (e.0 ∙ ap (λ z. end_deeds z c.args.of) by, e.1, e.2) in
    let first = end_pass m ends b told.0.seat c.args.of c.args.end told.2 in
    let p = pass_on m ends told.0.seat v.seat c.args.of told.1.same.1 told.1.same.3 first in
    let w = c.carry_out-desk.new.place.me.0 in
    let count = c.carry_out-desk.result.1 in
    let entered = c.carry_out-desk.ensures.entered in
    let is : c.deref_mut-last.result.now ≡ desk =
    c.deref_mut-last.ensures.value ∙ ap (λ x. x.value) c.carry_out-desk.ensures.same in
    subst (λ x. 0 < x.records.queue.unfinished) (sym is) (end_within m ends v desk hand free c.requires.mine b
    c.args.of c.args.end p w count plan entered).2

pub put_home-requires-clause-hand : goal.put_home-requires-clause-hand
put_home-requires-clause-hand g c =
    let m = g.L.Revision.machine in
    let ends = g.L.Revision.ends in
    let v = c.args.place.now.me.0 in
    let old = c.args.desk.value in
    let held = c.deref_mut-held.result.now in
    let desk = record held { journal = c.reserve.new.self; plan = c.plan_end.new.plan } in
    let room = c.reserve.ensures.same in
    let same =
    same_room old held c.reserve.new.self c.plan_end.new.plan c.deref_mut-held.ensures.value room.0 room.1 in
    let told = c.requires.told in
    let hand = hand_same m ends v old desk told.1.hand same in
    let free : desk.state ≡ All = same.state ∙ c.requires.free in
    let b = g.L.Revision.by_join c.args.end in
    let by = c.is_by_join-by_join.ensures in
    let e = c.plan_end.ensures in
    let plan : HasPlan desk (end_deeds b c.args.of) None None =
    (e.0 ∙ ap (λ z. end_deeds z c.args.of) by, e.1, e.2) in
    let first = end_pass m ends b told.0.seat c.args.of c.args.end told.2 in
    let p = pass_on m ends told.0.seat v.seat c.args.of told.1.same.1 told.1.same.3 first in
    let w = c.carry_out-desk.new.place.me.0 in
    let count = c.carry_out-desk.result.1 in
    let entered = c.carry_out-desk.ensures.entered in
    let is : c.deref_mut-last.result.now ≡ desk =
    c.deref_mut-last.ensures.value ∙ ap (λ x. x.value) c.carry_out-desk.ensures.same in
    let last = c.deref_mut-last.result.now in
    let noted = c.note_end.ensures in
    let by_count = c.counted.ensures ∙ (end_count m ends v desk hand free c.requires.mine b c.args.of c.args.end p w
    count plan entered).1 in
    end_hand m ends v desk hand free c.requires.mine b c.args.of c.args.end p w count plan entered (record last {
      journal = c.note_end.new.journal;
      records = c.end.new.self;
    })
    (c.end.ensures.now ∙ ap (λ x. put_record x.records.list.items c.args.of (Over c.args.end)) is)
    (subst (λ x. EndsOne x.records.queue c.end.new.self.queue c.args.of) is c.end.ensures.queue)
    (noted.entries
    ∙ ap (λ (z : Desk _ _ _ × Bool × ℕ). pairs z.0.journal.entries.items ++ stamped z.2 (entered_by (end_deeds z.1
    c.args.of)))
    (λ i. (is i, by i, by_count i)))
    (ap (λ x. x.state) is) (noted.limit ∙ ap (λ x. x.journal.limit) is) (ap (λ x. x.lent) is) (ap (λ x. x.strays) is)

pub returns-clause-rests : goal.returns-clause-rests
returns-clause-rests g c =
    let m = g.L.Revision.machine in
    let ends = g.L.Revision.ends in
    let v = c.args.place.now.me.0 in
    let old = c.args.desk.value in
    let held = c.deref_mut-held.result.now in
    let desk = record held { journal = c.reserve.new.self; plan = c.plan_end.new.plan } in
    let room = c.reserve.ensures.same in
    let same =
    same_room old held c.reserve.new.self c.plan_end.new.plan c.deref_mut-held.ensures.value room.0 room.1 in
    let told = c.requires.told in
    let hand = hand_same m ends v old desk told.1.hand same in
    let free : desk.state ≡ All = same.state ∙ c.requires.free in
    let b = g.L.Revision.by_join c.args.end in
    let by = c.is_by_join-by_join.ensures in
    let e = c.plan_end.ensures in
    let plan : HasPlan desk (end_deeds b c.args.of) None None =
    (e.0 ∙ ap (λ z. end_deeds z c.args.of) by, e.1, e.2) in
    let first = end_pass m ends b told.0.seat c.args.of c.args.end told.2 in
    let p = pass_on m ends told.0.seat v.seat c.args.of told.1.same.1 told.1.same.3 first in
    let w = c.carry_out-desk.new.place.me.0 in
    let count = c.carry_out-desk.result.1 in
    let entered = c.carry_out-desk.ensures.entered in
    let is : c.deref_mut-last.result.now ≡ desk =
    c.deref_mut-last.ensures.value ∙ ap (λ x. x.value) c.carry_out-desk.ensures.same in
    let at = c.put_home.ensures.rests in
    let r = end_rests m ends v desk hand free c.requires.mine b c.args.of c.args.end p w count plan entered
    c.put_home.new.place.me.0 (ap (λ x. x.0) at) in
    let limit = r.3 in
    (ap (λ x. x.0.seat.has) at, ap (λ x. x.1) at, r.0, r.1, r.2, omega arith)

pub returns-clause-mine : goal.returns-clause-mine
returns-clause-mine g c =
    let m = g.L.Revision.machine in
    let ends = g.L.Revision.ends in
    let v = c.args.place.now.me.0 in
    let old = c.args.desk.value in
    let held = c.deref_mut-held.result.now in
    let desk = record held { journal = c.reserve.new.self; plan = c.plan_end.new.plan } in
    let room = c.reserve.ensures.same in
    let same =
    same_room old held c.reserve.new.self c.plan_end.new.plan c.deref_mut-held.ensures.value room.0 room.1 in
    let told = c.requires.told in
    let hand = hand_same m ends v old desk told.1.hand same in
    let free : desk.state ≡ All = same.state ∙ c.requires.free in
    let b = g.L.Revision.by_join c.args.end in
    let by = c.is_by_join-by_join.ensures in
    let e = c.plan_end.ensures in
    let plan : HasPlan desk (end_deeds b c.args.of) None None =
    (e.0 ∙ ap (λ z. end_deeds z c.args.of) by, e.1, e.2) in
    let first = end_pass m ends b told.0.seat c.args.of c.args.end told.2 in
    let p = pass_on m ends told.0.seat v.seat c.args.of told.1.same.1 told.1.same.3 first in
    let w = c.carry_out-desk.new.place.me.0 in
    let count = c.carry_out-desk.result.1 in
    let entered = c.carry_out-desk.ensures.entered in
    let is : c.deref_mut-last.result.now ≡ desk =
    c.deref_mut-last.ensures.value ∙ ap (λ x. x.value) c.carry_out-desk.ensures.same in
    (end_rests m ends v desk hand free c.requires.mine b c.args.of c.args.end p w count plan entered
    c.put_home.new.place.me.0 (ap (λ x. x.0) c.put_home.ensures.rests)).4 ∙ c.requires.mine

pub returns-clause-ok : goal.returns-clause-ok
returns-clause-ok g c =
    let m = g.L.Revision.machine in
    let ends = g.L.Revision.ends in
    let v = c.args.place.now.me.0 in
    let old = c.args.desk.value in
    let held = c.deref_mut-held.result.now in
    let desk = record held { journal = c.reserve.new.self; plan = c.plan_end.new.plan } in
    let room = c.reserve.ensures.same in
    let same =
    same_room old held c.reserve.new.self c.plan_end.new.plan c.deref_mut-held.ensures.value room.0 room.1 in
    let told = c.requires.told in
    let hand = hand_same m ends v old desk told.1.hand same in
    let free : desk.state ≡ All = same.state ∙ c.requires.free in
    let b = g.L.Revision.by_join c.args.end in
    let by = c.is_by_join-by_join.ensures in
    let e = c.plan_end.ensures in
    let plan : HasPlan desk (end_deeds b c.args.of) None None =
    (e.0 ∙ ap (λ z. end_deeds z c.args.of) by, e.1, e.2) in
    let first = end_pass m ends b told.0.seat c.args.of c.args.end told.2 in
    let p = pass_on m ends told.0.seat v.seat c.args.of told.1.same.1 told.1.same.3 first in
    let w = c.carry_out-desk.new.place.me.0 in
    let count = c.carry_out-desk.result.1 in
    let entered = c.carry_out-desk.ensures.entered in
    let is : c.deref_mut-last.result.now ≡ desk =
    c.deref_mut-last.ensures.value ∙ ap (λ x. x.value) c.carry_out-desk.ensures.same in
    λ v0 h. end_says m ends v desk hand free c.requires.mine b c.args.of c.args.end p w count plan entered v0
    c.put_home.new.place.me.0 (in_same m ends v0 v old desk h same)
    (ap (λ x. x.0) c.put_home.ensures.rests)

pub put_home_halted-requires-clause-hand : goal.put_home_halted-requires-clause-hand
put_home_halted-requires-clause-hand g c =
    let m = g.L.Revision.machine in
    let ends = g.L.Revision.ends in
    let v = c.args.place.now.me.0 in
    let old = c.args.desk.value in
    let held = c.deref_mut-held.result.now in
    let desk = record held { journal = c.reserve.new.self } in
    let room = c.reserve.ensures.same in
    let same =
    same_room old held c.reserve.new.self held.plan c.deref_mut-held.ensures.value room.0 room.1 in
    hand_same m ends v old desk c.requires.told.1.hand same

pub returns-then-not-reserve-clause-err : goal.returns-then-not-reserve-clause-err
returns-then-not-reserve-clause-err g c =
    let m = g.L.Revision.machine in
    let ends = g.L.Revision.ends in
    let v = c.args.place.now.me.0 in
    let old = c.args.desk.value in
    let held = c.deref_mut-held.result.now in
    let desk = record held { journal = c.reserve.new.self } in
    let room = c.reserve.ensures.same in
    let same =
    same_room old held c.reserve.new.self held.plan c.deref_mut-held.ensures.value room.0 room.1 in
    (refl, λ v0 h. c.put_home_halted.ensures.halted v0 (in_same m ends v0 v old desk h same))
