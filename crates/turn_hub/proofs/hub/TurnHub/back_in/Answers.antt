-- Answers of TurnHub::back_in: the revision has a record, and is ready again with the state of its pass.
use Rattle.std.proofs.Common.{◌≡◌, ◌<◌, [], ◌∷◌, None, length, sym, ap, ◌∙◌, subst, arith}
use Rattle.hub_core.specs.declared.status.Status.TheVariants.{Ready}
use Rattle.hub_core.specs.declared.state.HubState.TheVariants.{All}
use Rattle.hub_core.specs.declared.deed.Deed.TheVariants.{HandsIn}
use Rattle.hub_core.specs.declared.desk.Desk.{Desk}
use Rattle.hub_core.specs.Chains.{ReadiesOne}
use Rattle.hub_core.specs.Recorded.{put_record}
use Rattle.hub_core.specs.Tally.{record_at}
use Rattle.hub_core.proofs.Passes.{pass_named}
use Rattle.turn_hub.specs.Plans.{HasPlan}
use Rattle.turn_hub.proofs.Values.{same_plan, hand_same, in_same}
use Rattle.turn_hub.proofs.Finding.{pass_on}
use Rattle.turn_hub.proofs.Hands.{can_hand, hand_record, hand_rests, may_back, back_hand, back_says}
use Rattle.turn_hub.proofs.hub.TurnHub.back_in.Goals as goal

pub carry_out-desk-requires-clause-can : goal.carry_out-desk-requires-clause-can
carry_out-desk-requires-clause-can g c =
    let m = g.L.Revision.machine in
    let ends = g.L.Revision.ends in
    let v = c.args.place.now.me.0 in
    let old = c.args.desk.value in
    let held = c.deref_mut-held.result.now in
    let k = c.args.of in
    let x = c.args.runner in
    let desk = record held { plan = c.plan_hand.new.plan } in
    let same = same_plan old held c.plan_hand.new.plan c.deref_mut-held.ensures.value in
    let told = c.requires.told in
    let hand = hand_same m ends v old desk told.1.hand same in
    let free : desk.state ≡ All = same.state ∙ c.requires.free in
    let p = pass_on m ends told.0.seat v.seat k told.1.same.1 told.1.same.3 told.2 in
    let pos = pass_named v.seat.passes k p.1 p.3 in
    let plan : HasPlan desk (HandsIn k ∷ []) None None = c.plan_hand.ensures in
    let may = may_back m ends v desk hand free c.requires.mine k x p in
    can_hand m ends v desk hand free c.requires.mine k pos (Ready x) p.0 p.2 may plan

pub hand_back-requires-clause-out : goal.hand_back-requires-clause-out
hand_back-requires-clause-out g c =
    let m = g.L.Revision.machine in
    let ends = g.L.Revision.ends in
    let v = c.args.place.now.me.0 in
    let old = c.args.desk.value in
    let held = c.deref_mut-held.result.now in
    let k = c.args.of in
    let x = c.args.runner in
    let desk = record held { plan = c.plan_hand.new.plan } in
    let same = same_plan old held c.plan_hand.new.plan c.deref_mut-held.ensures.value in
    let told = c.requires.told in
    let hand = hand_same m ends v old desk told.1.hand same in
    let free : desk.state ≡ All = same.state ∙ c.requires.free in
    let p = pass_on m ends told.0.seat v.seat k told.1.same.1 told.1.same.3 told.2 in
    let pos = pass_named v.seat.passes k p.1 p.3 in
    let plan : HasPlan desk (HandsIn k ∷ []) None None = c.plan_hand.ensures in
    let may = may_back m ends v desk hand free c.requires.mine k x p in
    let w = c.carry_out-desk.new.place.me.0 in
    let tally = c.carry_out-desk.result.1 in
    let entered = c.carry_out-desk.ensures.entered in
    let is : c.deref_mut-last.result.now ≡ desk =
    c.deref_mut-last.ensures.value ∙ ap (λ x. x.value) c.carry_out-desk.ensures.same in
    ap (λ z. record_at z.records.list.items k) is ∙ (hand_record m ends v desk hand free c.requires.mine k pos
    (Ready x) p.0 p.2 may w tally plan entered).0

pub hand_back-requires-clause-queue : goal.hand_back-requires-clause-queue
hand_back-requires-clause-queue g c =
    let m = g.L.Revision.machine in
    let ends = g.L.Revision.ends in
    let v = c.args.place.now.me.0 in
    let old = c.args.desk.value in
    let held = c.deref_mut-held.result.now in
    let k = c.args.of in
    let x = c.args.runner in
    let desk = record held { plan = c.plan_hand.new.plan } in
    let same = same_plan old held c.plan_hand.new.plan c.deref_mut-held.ensures.value in
    let told = c.requires.told in
    let hand = hand_same m ends v old desk told.1.hand same in
    let free : desk.state ≡ All = same.state ∙ c.requires.free in
    let p = pass_on m ends told.0.seat v.seat k told.1.same.1 told.1.same.3 told.2 in
    let pos = pass_named v.seat.passes k p.1 p.3 in
    let plan : HasPlan desk (HandsIn k ∷ []) None None = c.plan_hand.ensures in
    let may = may_back m ends v desk hand free c.requires.mine k x p in
    let w = c.carry_out-desk.new.place.me.0 in
    let tally = c.carry_out-desk.result.1 in
    let entered = c.carry_out-desk.ensures.entered in
    let is : c.deref_mut-last.result.now ≡ desk =
    c.deref_mut-last.ensures.value ∙ ap (λ x. x.value) c.carry_out-desk.ensures.same in
    subst (λ (z : Desk _ _ _). k < length z.records.queue.links.items) (sym is) (hand_record m ends v desk hand free
    c.requires.mine k pos (Ready x) p.0 p.2 may w tally plan entered).1

pub put_home-requires-clause-hand : goal.put_home-requires-clause-hand
put_home-requires-clause-hand g c =
    let m = g.L.Revision.machine in
    let ends = g.L.Revision.ends in
    let v = c.args.place.now.me.0 in
    let old = c.args.desk.value in
    let held = c.deref_mut-held.result.now in
    let k = c.args.of in
    let x = c.args.runner in
    let desk = record held { plan = c.plan_hand.new.plan } in
    let same = same_plan old held c.plan_hand.new.plan c.deref_mut-held.ensures.value in
    let told = c.requires.told in
    let hand = hand_same m ends v old desk told.1.hand same in
    let free : desk.state ≡ All = same.state ∙ c.requires.free in
    let p = pass_on m ends told.0.seat v.seat k told.1.same.1 told.1.same.3 told.2 in
    let pos = pass_named v.seat.passes k p.1 p.3 in
    let plan : HasPlan desk (HandsIn k ∷ []) None None = c.plan_hand.ensures in
    let may = may_back m ends v desk hand free c.requires.mine k x p in
    let w = c.carry_out-desk.new.place.me.0 in
    let tally = c.carry_out-desk.result.1 in
    let entered = c.carry_out-desk.ensures.entered in
    let is : c.deref_mut-last.result.now ≡ desk =
    c.deref_mut-last.ensures.value ∙ ap (λ x. x.value) c.carry_out-desk.ensures.same in
    let last = c.deref_mut-last.result.now in
    back_hand m ends v desk hand free c.requires.mine k x p w tally plan entered
    (record last { records = c.hand_back.new.self }) c.requires.group
    (c.hand_back.ensures.now ∙ ap (λ z. put_record z.records.list.items k (Ready x)) is)
    (subst (λ z. ReadiesOne z.records.queue c.hand_back.new.self.queue k) is c.hand_back.ensures.queue)
    (ap (λ z. z.journal) is) (ap (λ z. z.state) is) (ap (λ z. z.lent) is) (ap (λ z. z.strays) is)

pub returns-clause-rests : goal.returns-clause-rests
returns-clause-rests g c =
    let m = g.L.Revision.machine in
    let ends = g.L.Revision.ends in
    let v = c.args.place.now.me.0 in
    let old = c.args.desk.value in
    let held = c.deref_mut-held.result.now in
    let k = c.args.of in
    let x = c.args.runner in
    let desk = record held { plan = c.plan_hand.new.plan } in
    let same = same_plan old held c.plan_hand.new.plan c.deref_mut-held.ensures.value in
    let told = c.requires.told in
    let hand = hand_same m ends v old desk told.1.hand same in
    let free : desk.state ≡ All = same.state ∙ c.requires.free in
    let p = pass_on m ends told.0.seat v.seat k told.1.same.1 told.1.same.3 told.2 in
    let pos = pass_named v.seat.passes k p.1 p.3 in
    let plan : HasPlan desk (HandsIn k ∷ []) None None = c.plan_hand.ensures in
    let may = may_back m ends v desk hand free c.requires.mine k x p in
    let w = c.carry_out-desk.new.place.me.0 in
    let tally = c.carry_out-desk.result.1 in
    let entered = c.carry_out-desk.ensures.entered in
    let is : c.deref_mut-last.result.now ≡ desk =
    c.deref_mut-last.ensures.value ∙ ap (λ x. x.value) c.carry_out-desk.ensures.same in
    let at = c.put_home.ensures.rests in
    let r = hand_rests m ends v desk hand free c.requires.mine k pos (Ready x) p.0 p.2 may w tally plan entered
    c.put_home.new.place.me.0 (ap (λ x. x.0) at) in
    let limit = r.3 in
    (ap (λ x. x.0.seat.has) at, ap (λ x. x.1) at, r.0, r.1, r.2, omega arith)

pub returns-clause-mine : goal.returns-clause-mine
returns-clause-mine g c =
    let m = g.L.Revision.machine in
    let ends = g.L.Revision.ends in
    let v = c.args.place.now.me.0 in
    let old = c.args.desk.value in
    let held = c.deref_mut-held.result.now in
    let k = c.args.of in
    let x = c.args.runner in
    let desk = record held { plan = c.plan_hand.new.plan } in
    let same = same_plan old held c.plan_hand.new.plan c.deref_mut-held.ensures.value in
    let told = c.requires.told in
    let hand = hand_same m ends v old desk told.1.hand same in
    let free : desk.state ≡ All = same.state ∙ c.requires.free in
    let p = pass_on m ends told.0.seat v.seat k told.1.same.1 told.1.same.3 told.2 in
    let pos = pass_named v.seat.passes k p.1 p.3 in
    let plan : HasPlan desk (HandsIn k ∷ []) None None = c.plan_hand.ensures in
    let may = may_back m ends v desk hand free c.requires.mine k x p in
    let w = c.carry_out-desk.new.place.me.0 in
    let tally = c.carry_out-desk.result.1 in
    let entered = c.carry_out-desk.ensures.entered in
    let is : c.deref_mut-last.result.now ≡ desk =
    c.deref_mut-last.ensures.value ∙ ap (λ x. x.value) c.carry_out-desk.ensures.same in
    (hand_rests m ends v desk hand free c.requires.mine k pos (Ready x) p.0 p.2 may w tally plan entered
    c.put_home.new.place.me.0 (ap (λ x. x.0) c.put_home.ensures.rests)).4 ∙ c.requires.mine

pub returns-clause-told : goal.returns-clause-told
returns-clause-told g c =
    let m = g.L.Revision.machine in
    let ends = g.L.Revision.ends in
    let v = c.args.place.now.me.0 in
    let old = c.args.desk.value in
    let held = c.deref_mut-held.result.now in
    let k = c.args.of in
    let x = c.args.runner in
    let desk = record held { plan = c.plan_hand.new.plan } in
    let same = same_plan old held c.plan_hand.new.plan c.deref_mut-held.ensures.value in
    let told = c.requires.told in
    let hand = hand_same m ends v old desk told.1.hand same in
    let free : desk.state ≡ All = same.state ∙ c.requires.free in
    let p = pass_on m ends told.0.seat v.seat k told.1.same.1 told.1.same.3 told.2 in
    let pos = pass_named v.seat.passes k p.1 p.3 in
    let plan : HasPlan desk (HandsIn k ∷ []) None None = c.plan_hand.ensures in
    let may = may_back m ends v desk hand free c.requires.mine k x p in
    let w = c.carry_out-desk.new.place.me.0 in
    let tally = c.carry_out-desk.result.1 in
    let entered = c.carry_out-desk.ensures.entered in
    let is : c.deref_mut-last.result.now ≡ desk =
    c.deref_mut-last.ensures.value ∙ ap (λ x. x.value) c.carry_out-desk.ensures.same in
    λ v0 h. back_says m ends v desk hand free c.requires.mine k x p w tally plan entered v0 c.put_home.new.place.me.0
    (in_same m ends v0 v old desk h same) (ap (λ x. x.0) c.put_home.ensures.rests)
