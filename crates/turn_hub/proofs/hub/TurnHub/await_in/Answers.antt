-- Answers of TurnHub::await_in: the joiner has a record, and waits for what has not ended.
use Rattle.std.proofs.Common.{◌≡◌, ◌<◌, Bool, false, [], ◌∷◌, None, Some, length, sym, ap, ◌∙◌, subst, arith}
use Rattle.hub_core.specs.declared.status.Status.TheVariants.{Waiting}
use Rattle.hub_core.specs.declared.state.HubState.TheVariants.{All}
use Rattle.hub_core.specs.declared.deed.Deed.TheVariants.{HandsIn}
use Rattle.hub_core.specs.declared.desk.Desk.{Desk}
use Rattle.hub_core.specs.declared.records.Records.{Records}
use Rattle.hub_core.specs.declared.status.Status.{Status}
use Rattle.hub_core.specs.Chains.{DelaysOne}
use Rattle.hub_core.specs.Recorded.{put_record}
use Rattle.hub_core.specs.Tally.{record_at}
use Rattle.hub_core.proofs.Passes.{pass_named}
use Rattle.turn_hub.specs.Plans.{HasPlan}
use Rattle.turn_hub.specs.Joinings.{IsOpenIn}
use Rattle.turn_hub.proofs.Values.{same_plan, hand_same, same_slots, in_same}
use Rattle.turn_hub.proofs.Finding.{pass_on}
use Rattle.turn_hub.proofs.Hands.{can_hand, hand_record, hand_rests, may_wait}
use Rattle.turn_hub.proofs.Awaits.{await_hand, await_says}
use Rattle.turn_hub.proofs.hub.TurnHub.await_in.Goals as goal

pub carry_out-desk-requires-clause-can : goal.carry_out-desk-requires-clause-can
carry_out-desk-requires-clause-can g c =
    let m = g.L.Revision.machine in
    let ends = g.L.Revision.ends in
    let v = c.args.place.now.me.0 in
    let old = c.args.desk.value in
    let held = c.deref_mut-held.result.now in
    let k = c.args.of in
    let x = c.args.at in
    let desk = record held { plan = c.plan_hand.new.plan } in
    let same = same_plan old held c.plan_hand.new.plan c.deref_mut-held.ensures.value in
    let told = c.requires.told in
    let hand = hand_same m ends v old desk told.1.hand same in
    let free : desk.state ≡ All = same.state ∙ c.requires.free in
    let p = pass_on m ends told.0.seat v.seat k told.1.same.1 told.1.same.3 told.2 in
    let pos = pass_named v.seat.passes k p.1 p.3 in
    let plan : HasPlan desk (HandsIn k ∷ []) None None = c.plan_hand.ensures in
    let open_in = subst (λ s. IsOpenIn m ends v s (m.on x)) (sym (same_slots m ends v old desk told.1.hand same))
    told.3 in
    let may = may_wait m ends v desk hand free c.requires.mine k x p in
    can_hand m ends v desk hand free c.requires.mine k pos (Waiting x) p.0 p.2 may plan

pub wait_value-requires-clause-out : goal.wait_value-requires-clause-out
wait_value-requires-clause-out g c =
    let m = g.L.Revision.machine in
    let ends = g.L.Revision.ends in
    let v = c.args.place.now.me.0 in
    let old = c.args.desk.value in
    let held = c.deref_mut-held.result.now in
    let k = c.args.of in
    let x = c.args.at in
    let desk = record held { plan = c.plan_hand.new.plan } in
    let same = same_plan old held c.plan_hand.new.plan c.deref_mut-held.ensures.value in
    let told = c.requires.told in
    let hand = hand_same m ends v old desk told.1.hand same in
    let free : desk.state ≡ All = same.state ∙ c.requires.free in
    let p = pass_on m ends told.0.seat v.seat k told.1.same.1 told.1.same.3 told.2 in
    let pos = pass_named v.seat.passes k p.1 p.3 in
    let plan : HasPlan desk (HandsIn k ∷ []) None None = c.plan_hand.ensures in
    let open_in = subst (λ s. IsOpenIn m ends v s (m.on x)) (sym (same_slots m ends v old desk told.1.hand same))
    told.3 in
    let may = may_wait m ends v desk hand free c.requires.mine k x p in
    let w = c.carry_out-desk.new.place.me.0 in
    let tally = c.carry_out-desk.result.1 in
    let entered = c.carry_out-desk.ensures.entered in
    let is : c.deref_mut-last.result.now ≡ desk =
    c.deref_mut-last.ensures.value ∙ ap (λ x. x.value) c.carry_out-desk.ensures.same in
    ap (λ z. record_at z.records.list.items k) is ∙ (hand_record m ends v desk hand free c.requires.mine k pos
    (Waiting x) p.0 p.2 may w tally plan entered).0

pub wait_value-requires-clause-within : goal.wait_value-requires-clause-within
wait_value-requires-clause-within g c =
    let m = g.L.Revision.machine in
    let ends = g.L.Revision.ends in
    let v = c.args.place.now.me.0 in
    let old = c.args.desk.value in
    let held = c.deref_mut-held.result.now in
    let k = c.args.of in
    let x = c.args.at in
    let desk = record held { plan = c.plan_hand.new.plan } in
    let same = same_plan old held c.plan_hand.new.plan c.deref_mut-held.ensures.value in
    let told = c.requires.told in
    let hand = hand_same m ends v old desk told.1.hand same in
    let free : desk.state ≡ All = same.state ∙ c.requires.free in
    let p = pass_on m ends told.0.seat v.seat k told.1.same.1 told.1.same.3 told.2 in
    let pos = pass_named v.seat.passes k p.1 p.3 in
    let plan : HasPlan desk (HandsIn k ∷ []) None None = c.plan_hand.ensures in
    let open_in = subst (λ s. IsOpenIn m ends v s (m.on x)) (sym (same_slots m ends v old desk told.1.hand same))
    told.3 in
    let may = may_wait m ends v desk hand free c.requires.mine k x p in
    let w = c.carry_out-desk.new.place.me.0 in
    let tally = c.carry_out-desk.result.1 in
    let entered = c.carry_out-desk.ensures.entered in
    let is : c.deref_mut-last.result.now ≡ desk =
    c.deref_mut-last.ensures.value ∙ ap (λ x. x.value) c.carry_out-desk.ensures.same in
    let on = c.on-on.ensures in
    let within : m.on x < length desk.records.queue.waiters.items =
    subst (λ (z : Records _ _ _). m.on x < length z.queue.waiters.items) (sym same.records) c.requires.within in (
      subst (λ (z : Desk _ _ _). k < length z.records.queue.links.items) (sym is) (hand_record m ends v desk hand
          free c.requires.mine k pos (Waiting x) p.0 p.2 may w tally plan entered).1,
      subst (λ z. z < length c.deref_mut-last.result.now.records.queue.waiters.items) (sym on)
          (subst (λ (z : Desk _ _ _). m.on x < length z.records.queue.waiters.items) (sym is) within),
    )

pub put_home-requires-clause-hand : goal.put_home-requires-clause-hand
put_home-requires-clause-hand g c =
    let m = g.L.Revision.machine in
    let ends = g.L.Revision.ends in
    let v = c.args.place.now.me.0 in
    let old = c.args.desk.value in
    let held = c.deref_mut-held.result.now in
    let k = c.args.of in
    let x = c.args.at in
    let desk = record held { plan = c.plan_hand.new.plan } in
    let same = same_plan old held c.plan_hand.new.plan c.deref_mut-held.ensures.value in
    let told = c.requires.told in
    let hand = hand_same m ends v old desk told.1.hand same in
    let free : desk.state ≡ All = same.state ∙ c.requires.free in
    let p = pass_on m ends told.0.seat v.seat k told.1.same.1 told.1.same.3 told.2 in
    let pos = pass_named v.seat.passes k p.1 p.3 in
    let plan : HasPlan desk (HandsIn k ∷ []) None None = c.plan_hand.ensures in
    let open_in = subst (λ s. IsOpenIn m ends v s (m.on x)) (sym (same_slots m ends v old desk told.1.hand same))
    told.3 in
    let may = may_wait m ends v desk hand free c.requires.mine k x p in
    let w = c.carry_out-desk.new.place.me.0 in
    let tally = c.carry_out-desk.result.1 in
    let entered = c.carry_out-desk.ensures.entered in
    let is : c.deref_mut-last.result.now ≡ desk =
    c.deref_mut-last.ensures.value ∙ ap (λ x. x.value) c.carry_out-desk.ensures.same in
    let last = c.deref_mut-last.result.now in
    await_hand m ends v desk hand free c.requires.mine k x p open_in w tally plan entered
    (record last { records = c.wait_value.new.records }) c.requires.group
    (subst (λ (z : Records _ _ _ × Bool). z.1 ≡ false → (y : Status _ _ _) × (record_at z.0.list.items (m.on x) ≡
    Some y))
    (λ i. (sym same.records i, sym same.strays i)) c.requires.tracked)
    (c.wait_value.ensures.now ∙ ap (λ z. put_record z.records.list.items k (Waiting x)) is)
    (subst (λ z. DelaysOne z.records.queue c.wait_value.new.records.queue k (m.on x)) is
    (subst (λ z. DelaysOne last.records.queue c.wait_value.new.records.queue k z) c.on-on.ensures
    c.wait_value.ensures.queue))
    (ap (λ z. z.journal) is) (ap (λ z. z.state) is) (ap (λ z. z.lent) is) (ap (λ z. z.strays) is)

pub returns-clause-rests : goal.returns-clause-rests
returns-clause-rests g c =
    let m = g.L.Revision.machine in
    let ends = g.L.Revision.ends in
    let v = c.args.place.now.me.0 in
    let old = c.args.desk.value in
    let held = c.deref_mut-held.result.now in
    let k = c.args.of in
    let x = c.args.at in
    let desk = record held { plan = c.plan_hand.new.plan } in
    let same = same_plan old held c.plan_hand.new.plan c.deref_mut-held.ensures.value in
    let told = c.requires.told in
    let hand = hand_same m ends v old desk told.1.hand same in
    let free : desk.state ≡ All = same.state ∙ c.requires.free in
    let p = pass_on m ends told.0.seat v.seat k told.1.same.1 told.1.same.3 told.2 in
    let pos = pass_named v.seat.passes k p.1 p.3 in
    let plan : HasPlan desk (HandsIn k ∷ []) None None = c.plan_hand.ensures in
    let open_in = subst (λ s. IsOpenIn m ends v s (m.on x)) (sym (same_slots m ends v old desk told.1.hand same))
    told.3 in
    let may = may_wait m ends v desk hand free c.requires.mine k x p in
    let w = c.carry_out-desk.new.place.me.0 in
    let tally = c.carry_out-desk.result.1 in
    let entered = c.carry_out-desk.ensures.entered in
    let is : c.deref_mut-last.result.now ≡ desk =
    c.deref_mut-last.ensures.value ∙ ap (λ x. x.value) c.carry_out-desk.ensures.same in
    let at = c.put_home.ensures.rests in
    let r = hand_rests m ends v desk hand free c.requires.mine k pos (Waiting x) p.0 p.2 may w tally plan entered
    c.put_home.new.place.me.0 (ap (λ x. x.0) at) in
    let limit = r.3 in
    (ap (λ x. x.0.seat.has) at, ap (λ x. x.1) at, r.0, r.1, r.2, omega arith)

pub returns-clause-mine : goal.returns-clause-mine
returns-clause-mine g c =
    let m = g.L.Revision.machine in
    let ends = g.L.Revision.ends in
    let v = c.args.place.now.me.0 in
    let old = c.args.desk.value in
    let held = c.deref_mut-held.result.now in
    let k = c.args.of in
    let x = c.args.at in
    let desk = record held { plan = c.plan_hand.new.plan } in
    let same = same_plan old held c.plan_hand.new.plan c.deref_mut-held.ensures.value in
    let told = c.requires.told in
    let hand = hand_same m ends v old desk told.1.hand same in
    let free : desk.state ≡ All = same.state ∙ c.requires.free in
    let p = pass_on m ends told.0.seat v.seat k told.1.same.1 told.1.same.3 told.2 in
    let pos = pass_named v.seat.passes k p.1 p.3 in
    let plan : HasPlan desk (HandsIn k ∷ []) None None = c.plan_hand.ensures in
    let open_in = subst (λ s. IsOpenIn m ends v s (m.on x)) (sym (same_slots m ends v old desk told.1.hand same))
    told.3 in
    let may = may_wait m ends v desk hand free c.requires.mine k x p in
    let w = c.carry_out-desk.new.place.me.0 in
    let tally = c.carry_out-desk.result.1 in
    let entered = c.carry_out-desk.ensures.entered in
    let is : c.deref_mut-last.result.now ≡ desk =
    c.deref_mut-last.ensures.value ∙ ap (λ x. x.value) c.carry_out-desk.ensures.same in
    (hand_rests m ends v desk hand free c.requires.mine k pos (Waiting x) p.0 p.2 may w tally plan entered
    c.put_home.new.place.me.0 (ap (λ x. x.0) c.put_home.ensures.rests)).4 ∙ c.requires.mine

pub returns-clause-told : goal.returns-clause-told
returns-clause-told g c =
    let m = g.L.Revision.machine in
    let ends = g.L.Revision.ends in
    let v = c.args.place.now.me.0 in
    let old = c.args.desk.value in
    let held = c.deref_mut-held.result.now in
    let k = c.args.of in
    let x = c.args.at in
    let desk = record held { plan = c.plan_hand.new.plan } in
    let same = same_plan old held c.plan_hand.new.plan c.deref_mut-held.ensures.value in
    let told = c.requires.told in
    let hand = hand_same m ends v old desk told.1.hand same in
    let free : desk.state ≡ All = same.state ∙ c.requires.free in
    let p = pass_on m ends told.0.seat v.seat k told.1.same.1 told.1.same.3 told.2 in
    let pos = pass_named v.seat.passes k p.1 p.3 in
    let plan : HasPlan desk (HandsIn k ∷ []) None None = c.plan_hand.ensures in
    let open_in = subst (λ s. IsOpenIn m ends v s (m.on x)) (sym (same_slots m ends v old desk told.1.hand same))
    told.3 in
    let may = may_wait m ends v desk hand free c.requires.mine k x p in
    let w = c.carry_out-desk.new.place.me.0 in
    let tally = c.carry_out-desk.result.1 in
    let entered = c.carry_out-desk.ensures.entered in
    let is : c.deref_mut-last.result.now ≡ desk =
    c.deref_mut-last.ensures.value ∙ ap (λ x. x.value) c.carry_out-desk.ensures.same in
    λ v0 h. await_says m ends v desk hand free c.requires.mine k x p open_in w tally plan entered v0
    c.put_home.new.place.me.0
    (in_same m ends v0 v old desk h same) (ap (λ x. x.0) c.put_home.ensures.rests)
