-- Answers of TurnHub::claim_in: the joinee's record has its end, and one entry joins it.
use Rattle.std.proofs.Common.{◌≡◌, ◌∷◌, ◌++◌, ℕ, [], None, Some, refl, sym, ap, ◌∙◌, arith}
use Rattle.hub_core.specs.declared.status.Status.TheVariants.{Over, Gone}
use Rattle.hub_core.specs.declared.state.HubState.TheVariants.{All}
use Rattle.hub_core.specs.declared.deed.Deed.TheVariants.{Commits}
use Rattle.hub_core.specs.declared.desk.Desk.{Desk}
use Rattle.hub_core.specs.Recorded.{put_record}
use Rattle.hub_core.specs.Tally.{record_at, pairs}
use Rattle.turn_hub.proofs.Says.{come_says}
use Rattle.turn_hub.specs.Plans.{HasPlan}
use Rattle.turn_hub.proofs.Values.{same_room, hand_same, in_same}
use Rattle.turn_hub.proofs.Finding.{pass_on}
use Rattle.turn_hub.proofs.Claims.{can_claim, claim_count, claim_rests, claim_hand, claim_says}
use Rattle.turn_hub.proofs.hub.TurnHub.claim_in.Goals as goal

pub carry_out-desk-requires-clause-can : goal.carry_out-desk-requires-clause-can
carry_out-desk-requires-clause-can g c =
    let m = g.L.Revision.machine in
    let ends = g.L.Revision.ends in
    let v = c.args.place.now.me.0 in
    let old = c.args.desk.value in
    let held = c.deref_mut-held.result.now in
    let k = c.args.of in
    let a = c.args.at in
    let desk = record held { journal = c.reserve.new.self; plan = c.plan_join.new.plan } in
    let room = c.reserve.ensures.same in
    let same =
    same_room old held c.reserve.new.self c.plan_join.new.plan c.deref_mut-held.ensures.value room.0 room.1 in
    let told = c.requires.told in
    let hand = hand_same m ends v old desk told.1.hand same in
    let free : desk.state ≡ All = same.state ∙ c.requires.free in
    let p = pass_on m ends told.0.seat v.seat k told.1.same.1 told.1.same.3 told.2 in
    let plan : HasPlan desk (Commits k ∷ []) None None = c.plan_join.ensures in
    let end = c.requires.over.0 in
    let over : record_at desk.records.list.items (m.on a) ≡ Some (Over end) =
    ap (λ z. record_at z.list.items (m.on a)) same.records ∙ c.requires.over.1 in
    can_claim m ends v desk hand free k a p end over plan

pub counted-requires : goal.counted-requires
counted-requires g c =
    let m = g.L.Revision.machine in
    let ends = g.L.Revision.ends in
    let v = c.args.place.now.me.0 in
    let old = c.args.desk.value in
    let held = c.deref_mut-held.result.now in
    let k = c.args.of in
    let a = c.args.at in
    let desk = record held { journal = c.reserve.new.self; plan = c.plan_join.new.plan } in
    let room = c.reserve.ensures.same in
    let same =
    same_room old held c.reserve.new.self c.plan_join.new.plan c.deref_mut-held.ensures.value room.0 room.1 in
    let told = c.requires.told in
    let hand = hand_same m ends v old desk told.1.hand same in
    let free : desk.state ≡ All = same.state ∙ c.requires.free in
    let p = pass_on m ends told.0.seat v.seat k told.1.same.1 told.1.same.3 told.2 in
    let plan : HasPlan desk (Commits k ∷ []) None None = c.plan_join.ensures in
    let end = c.requires.over.0 in
    let over : record_at desk.records.list.items (m.on a) ≡ Some (Over end) =
    ap (λ z. record_at z.list.items (m.on a)) same.records ∙ c.requires.over.1 in
    let w = c.carry_out-desk.new.place.me.0 in
    let tally = c.carry_out-desk.result.1 in
    let entered = c.carry_out-desk.ensures.entered in
    let is : c.deref_mut-last.result.now ≡ desk =
    c.deref_mut-last.ensures.value ∙ ap (λ x. x.value) c.carry_out-desk.ensures.same in
    (claim_count m ends v desk hand free k a p end over w tally plan entered).0

pub exchange-requires : goal.exchange-requires
exchange-requires g c =
    let m = g.L.Revision.machine in
    let ends = g.L.Revision.ends in
    let v = c.args.place.now.me.0 in
    let old = c.args.desk.value in
    let held = c.deref_mut-held.result.now in
    let k = c.args.of in
    let a = c.args.at in
    let desk = record held { journal = c.reserve.new.self; plan = c.plan_join.new.plan } in
    let room = c.reserve.ensures.same in
    let same =
    same_room old held c.reserve.new.self c.plan_join.new.plan c.deref_mut-held.ensures.value room.0 room.1 in
    let told = c.requires.told in
    let hand = hand_same m ends v old desk told.1.hand same in
    let free : desk.state ≡ All = same.state ∙ c.requires.free in
    let p = pass_on m ends told.0.seat v.seat k told.1.same.1 told.1.same.3 told.2 in
    let plan : HasPlan desk (Commits k ∷ []) None None = c.plan_join.ensures in
    let end = c.requires.over.0 in
    let over : record_at desk.records.list.items (m.on a) ≡ Some (Over end) =
    ap (λ z. record_at z.list.items (m.on a)) same.records ∙ c.requires.over.1 in
    let w = c.carry_out-desk.new.place.me.0 in
    let tally = c.carry_out-desk.result.1 in
    let entered = c.carry_out-desk.ensures.entered in
    let is : c.deref_mut-last.result.now ≡ desk =
    c.deref_mut-last.ensures.value ∙ ap (λ x. x.value) c.carry_out-desk.ensures.same in
    let at = ap (λ z. record_at z.records.list.items (m.on a)) is ∙ over in
    (Over end, ap (record_at c.deref_mut-last.result.now.records.list.items) c.on-on.ensures ∙ at)

pub put_home-requires-clause-hand : goal.put_home-requires-clause-hand
put_home-requires-clause-hand g c =
    let m = g.L.Revision.machine in
    let ends = g.L.Revision.ends in
    let v = c.args.place.now.me.0 in
    let old = c.args.desk.value in
    let held = c.deref_mut-held.result.now in
    let k = c.args.of in
    let a = c.args.at in
    let desk = record held { journal = c.reserve.new.self; plan = c.plan_join.new.plan } in
    let room = c.reserve.ensures.same in
    let same =
    same_room old held c.reserve.new.self c.plan_join.new.plan c.deref_mut-held.ensures.value room.0 room.1 in
    let told = c.requires.told in
    let hand = hand_same m ends v old desk told.1.hand same in
    let free : desk.state ≡ All = same.state ∙ c.requires.free in
    let p = pass_on m ends told.0.seat v.seat k told.1.same.1 told.1.same.3 told.2 in
    let plan : HasPlan desk (Commits k ∷ []) None None = c.plan_join.ensures in
    let end = c.requires.over.0 in
    let over : record_at desk.records.list.items (m.on a) ≡ Some (Over end) =
    ap (λ z. record_at z.list.items (m.on a)) same.records ∙ c.requires.over.1 in
    let w = c.carry_out-desk.new.place.me.0 in
    let tally = c.carry_out-desk.result.1 in
    let entered = c.carry_out-desk.ensures.entered in
    let is : c.deref_mut-last.result.now ≡ desk =
    c.deref_mut-last.ensures.value ∙ ap (λ x. x.value) c.carry_out-desk.ensures.same in
    let last = c.deref_mut-last.result.now in
    claim_hand m ends v desk hand free k a p end over w tally plan entered
    (record last { journal = c.enter.new.self; records = c.exchange.new.self })
    (c.exchange.ensures.now ∙ ap (λ (z : Desk _ _ _ × ℕ). put_record z.0.records.list.items z.1 Gone)
    (λ i. (is i, c.on-on.ensures i)))
    (c.exchange.ensures.queue ∙ ap (λ z. z.records.queue) is)
    (c.enter.ensures.entry
    ∙ ap (λ (z : Desk _ _ _ × ℕ). pairs z.0.journal.entries.items ++ (z.1, k) ∷ [])
    (λ i. (is i, (c.counted.ensures ∙ (claim_count m ends v desk hand free k a p end over w tally plan entered).1) i)))
    (ap (λ z. z.state) is) (c.enter.ensures.limit ∙ ap (λ z. z.journal.limit) is) (ap (λ z. z.lent) is)
    (ap (λ z. z.strays) is)

pub returns-clause-rests : goal.returns-clause-rests
returns-clause-rests g c =
    let m = g.L.Revision.machine in
    let ends = g.L.Revision.ends in
    let v = c.args.place.now.me.0 in
    let old = c.args.desk.value in
    let held = c.deref_mut-held.result.now in
    let k = c.args.of in
    let a = c.args.at in
    let desk = record held { journal = c.reserve.new.self; plan = c.plan_join.new.plan } in
    let room = c.reserve.ensures.same in
    let same =
    same_room old held c.reserve.new.self c.plan_join.new.plan c.deref_mut-held.ensures.value room.0 room.1 in
    let told = c.requires.told in
    let hand = hand_same m ends v old desk told.1.hand same in
    let free : desk.state ≡ All = same.state ∙ c.requires.free in
    let p = pass_on m ends told.0.seat v.seat k told.1.same.1 told.1.same.3 told.2 in
    let plan : HasPlan desk (Commits k ∷ []) None None = c.plan_join.ensures in
    let end = c.requires.over.0 in
    let over : record_at desk.records.list.items (m.on a) ≡ Some (Over end) =
    ap (λ z. record_at z.list.items (m.on a)) same.records ∙ c.requires.over.1 in
    let w = c.carry_out-desk.new.place.me.0 in
    let tally = c.carry_out-desk.result.1 in
    let entered = c.carry_out-desk.ensures.entered in
    let is : c.deref_mut-last.result.now ≡ desk =
    c.deref_mut-last.ensures.value ∙ ap (λ x. x.value) c.carry_out-desk.ensures.same in
    let at = c.put_home.ensures.rests in
    let r = claim_rests m ends v desk hand free k a p end over w tally plan entered c.put_home.new.place.me.0 (ap (λ
    x. x.0) at) in
    let limit = r.3 in
    (ap (λ x. x.0.seat.has) at, ap (λ x. x.1) at, r.0, r.1, r.2, omega arith)

pub returns-clause-mine : goal.returns-clause-mine
returns-clause-mine g c =
    let m = g.L.Revision.machine in
    let ends = g.L.Revision.ends in
    let v = c.args.place.now.me.0 in
    let old = c.args.desk.value in
    let held = c.deref_mut-held.result.now in
    let k = c.args.of in
    let a = c.args.at in
    let desk = record held { journal = c.reserve.new.self; plan = c.plan_join.new.plan } in
    let room = c.reserve.ensures.same in
    let same =
    same_room old held c.reserve.new.self c.plan_join.new.plan c.deref_mut-held.ensures.value room.0 room.1 in
    let told = c.requires.told in
    let hand = hand_same m ends v old desk told.1.hand same in
    let free : desk.state ≡ All = same.state ∙ c.requires.free in
    let p = pass_on m ends told.0.seat v.seat k told.1.same.1 told.1.same.3 told.2 in
    let plan : HasPlan desk (Commits k ∷ []) None None = c.plan_join.ensures in
    let end = c.requires.over.0 in
    let over : record_at desk.records.list.items (m.on a) ≡ Some (Over end) =
    ap (λ z. record_at z.list.items (m.on a)) same.records ∙ c.requires.over.1 in
    let w = c.carry_out-desk.new.place.me.0 in
    let tally = c.carry_out-desk.result.1 in
    let entered = c.carry_out-desk.ensures.entered in
    let is : c.deref_mut-last.result.now ≡ desk =
    c.deref_mut-last.ensures.value ∙ ap (λ x. x.value) c.carry_out-desk.ensures.same in
    (claim_rests m ends v desk hand free k a p end over w tally plan entered c.put_home.new.place.me.0 (ap (λ x. x.0)
    c.put_home.ensures.rests)).4

pub returns-clause-come : goal.returns-clause-come
returns-clause-come g c =
    come_says g.L.Revision.machine g.L.Revision.ends g.L.Revision.claimed g.L.Revision.stopped
    g.L.Revision.claimed_group g.L.Revision.stopped_group _ _ _ c.take_in.ensures

pub returns-clause-answer : goal.returns-clause-answer
returns-clause-answer g c =
    let m = g.L.Revision.machine in
    let ends = g.L.Revision.ends in
    let v = c.args.place.now.me.0 in
    let old = c.args.desk.value in
    let held = c.deref_mut-held.result.now in
    let k = c.args.of in
    let a = c.args.at in
    let desk = record held { journal = c.reserve.new.self; plan = c.plan_join.new.plan } in
    let room = c.reserve.ensures.same in
    let same =
    same_room old held c.reserve.new.self c.plan_join.new.plan c.deref_mut-held.ensures.value room.0 room.1 in
    let told = c.requires.told in
    let hand = hand_same m ends v old desk told.1.hand same in
    let free : desk.state ≡ All = same.state ∙ c.requires.free in
    let p = pass_on m ends told.0.seat v.seat k told.1.same.1 told.1.same.3 told.2 in
    let plan : HasPlan desk (Commits k ∷ []) None None = c.plan_join.ensures in
    let end = c.requires.over.0 in
    let over : record_at desk.records.list.items (m.on a) ≡ Some (Over end) =
    ap (λ z. record_at z.list.items (m.on a)) same.records ∙ c.requires.over.1 in
    let w = c.carry_out-desk.new.place.me.0 in
    let tally = c.carry_out-desk.result.1 in
    let entered = c.carry_out-desk.ensures.entered in
    let is : c.deref_mut-last.result.now ≡ desk =
    c.deref_mut-last.ensures.value ∙ ap (λ x. x.value) c.carry_out-desk.ensures.same in
    let was : record_at desk.records.list.items (m.on a) ≡ Some c.exchange.result =
    ap (λ z. record_at z.records.list.items (m.on a)) (sym is)
    ∙ (ap (record_at c.deref_mut-last.result.now.records.list.items) (sym c.on-on.ensures) ∙ c.exchange.ensures.was) in
    let here : record_at desk.records.list.items (m.on a) ≡ Some (Over c.in-Over.end) = was ∙ ap Some c.in-Over.is in
    λ v0 h. claim_says m ends v desk hand free k a p c.in-Over.end here w tally plan entered v0
    (in_same m ends v0 v old desk h same) g.L.Revision.claimed g.L.Revision.stopped g.L.Revision.claimed_group
    g.L.Revision.stopped_group c.put_home.new.place.me.0 (ap (λ x. x.0) c.put_home.ensures.rests) c.requires.group _
    c.take_in.ensures

pub put_home_halted-requires-clause-hand : goal.put_home_halted-requires-clause-hand
put_home_halted-requires-clause-hand g c =
    let m = g.L.Revision.machine in
    let ends = g.L.Revision.ends in
    let v = c.args.place.now.me.0 in
    let old = c.args.desk.value in
    let held = c.deref_mut-held.result.now in
    let desk = record held { journal = c.reserve.new.self } in
    let room = c.reserve.ensures.same in
    let same =
    same_room old held c.reserve.new.self held.plan c.deref_mut-held.ensures.value room.0 room.1 in
    hand_same m ends v old desk c.requires.told.1.hand same

pub returns-then-not-reserve-clause-answer : goal.returns-then-not-reserve-clause-answer
returns-then-not-reserve-clause-answer g c =
    let m = g.L.Revision.machine in
    let ends = g.L.Revision.ends in
    let v = c.args.place.now.me.0 in
    let old = c.args.desk.value in
    let held = c.deref_mut-held.result.now in
    let desk = record held { journal = c.reserve.new.self } in
    let room = c.reserve.ensures.same in
    let same =
    same_room old held c.reserve.new.self held.plan c.deref_mut-held.ensures.value room.0 room.1 in
    λ v0 h. (refl, c.put_home_halted.ensures.halted v0 (in_same m ends v0 v old desk h same))
