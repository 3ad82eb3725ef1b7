-- Answers of TurnHub::twice_in: the joinee was joined, and the entry of its joiner is the last.
use Rattle.std.proofs.Common.{◌≡◌, ◌∷◌, ◌++◌, ℕ, [], None, refl, sym, ap, ◌∙◌, subst, arith}
use Rattle.hub_core.specs.declared.state.HubState.TheVariants.{All, Twice}
use Rattle.hub_core.specs.declared.deed.Deed.TheVariants.{Commits}
use Rattle.hub_core.specs.declared.desk.Desk.{Desk}
use Rattle.hub_core.specs.Tally.{pairs}
use Rattle.turn_hub.specs.Plans.{HasPlan}
use Rattle.turn_hub.specs.Joinings.{IsGoneIn}
use Rattle.turn_hub.proofs.Values.{same_room, hand_same, same_slots, in_same}
use Rattle.turn_hub.proofs.Finding.{pass_on}
use Rattle.turn_hub.proofs.Twices.{can_stop, stop_count, stop_hand, stop_rests, stop_says}
use Rattle.turn_hub.proofs.hub.TurnHub.twice_in.Goals as goal

pub halt_twice-desk-requires-clause-can : goal.halt_twice-desk-requires-clause-can
halt_twice-desk-requires-clause-can g c =
    let m = g.L.Revision.machine in
    let ends = g.L.Revision.ends in
    let v = c.args.place.now.me.0 in
    let old = c.args.desk.value in
    let held = c.deref_mut-held.result.now in
    let k = c.args.of in
    let a = c.args.at in
    let desk = record held { journal = c.reserve.new.self; plan = c.plan_join.new.plan } in
    let room = c.reserve.ensures.same in
    let same =
    same_room old held c.reserve.new.self c.plan_join.new.plan c.deref_mut-held.ensures.value room.0 room.1 in
    let told = c.requires.told in
    let hand = hand_same m ends v old desk told.1.hand same in
    let free : desk.state ≡ All = same.state ∙ c.requires.free in
    let p = pass_on m ends told.0.seat v.seat k told.1.same.1 told.1.same.3 told.2 in
    let plan : HasPlan desk (Commits k ∷ []) None None = c.plan_join.ensures in
    let gone = subst (λ s. IsGoneIn m ends v s (m.on a)) (sym (same_slots m ends v old desk told.1.hand same)) told.3 in
    can_stop m ends v desk hand free k a p gone plan

pub counted-requires : goal.counted-requires
counted-requires g c =
    let m = g.L.Revision.machine in
    let ends = g.L.Revision.ends in
    let v = c.args.place.now.me.0 in
    let old = c.args.desk.value in
    let held = c.deref_mut-held.result.now in
    let k = c.args.of in
    let a = c.args.at in
    let desk = record held { journal = c.reserve.new.self; plan = c.plan_join.new.plan } in
    let room = c.reserve.ensures.same in
    let same =
    same_room old held c.reserve.new.self c.plan_join.new.plan c.deref_mut-held.ensures.value room.0 room.1 in
    let told = c.requires.told in
    let hand = hand_same m ends v old desk told.1.hand same in
    let free : desk.state ≡ All = same.state ∙ c.requires.free in
    let p = pass_on m ends told.0.seat v.seat k told.1.same.1 told.1.same.3 told.2 in
    let plan : HasPlan desk (Commits k ∷ []) None None = c.plan_join.ensures in
    let gone = subst (λ s. IsGoneIn m ends v s (m.on a)) (sym (same_slots m ends v old desk told.1.hand same)) told.3 in
    let w = c.halt_twice-desk.new.place.me.0 in
    let tally = c.halt_twice-desk.result.1 in
    let shut = c.halt_twice-desk.ensures.shut in
    let is : c.deref_mut-last.result.now ≡ desk =
    c.deref_mut-last.ensures.value ∙ ap (λ x. x.value) c.halt_twice-desk.ensures.same in
    (stop_count m ends v desk hand free k a p gone w tally plan shut).0

pub put_home-requires-clause-hand : goal.put_home-requires-clause-hand
put_home-requires-clause-hand g c =
    let m = g.L.Revision.machine in
    let ends = g.L.Revision.ends in
    let v = c.args.place.now.me.0 in
    let old = c.args.desk.value in
    let held = c.deref_mut-held.result.now in
    let k = c.args.of in
    let a = c.args.at in
    let desk = record held { journal = c.reserve.new.self; plan = c.plan_join.new.plan } in
    let room = c.reserve.ensures.same in
    let same =
    same_room old held c.reserve.new.self c.plan_join.new.plan c.deref_mut-held.ensures.value room.0 room.1 in
    let told = c.requires.told in
    let hand = hand_same m ends v old desk told.1.hand same in
    let free : desk.state ≡ All = same.state ∙ c.requires.free in
    let p = pass_on m ends told.0.seat v.seat k told.1.same.1 told.1.same.3 told.2 in
    let plan : HasPlan desk (Commits k ∷ []) None None = c.plan_join.ensures in
    let gone = subst (λ s. IsGoneIn m ends v s (m.on a)) (sym (same_slots m ends v old desk told.1.hand same)) told.3 in
    let w = c.halt_twice-desk.new.place.me.0 in
    let tally = c.halt_twice-desk.result.1 in
    let shut = c.halt_twice-desk.ensures.shut in
    let is : c.deref_mut-last.result.now ≡ desk =
    c.deref_mut-last.ensures.value ∙ ap (λ x. x.value) c.halt_twice-desk.ensures.same in
    let last = c.deref_mut-last.result.now in
    stop_hand m ends v desk hand free k a p gone w tally plan shut
    (record last { journal = c.enter.new.self; state = Twice }) (ap (λ z. z.records) is)
    (c.enter.ensures.entry
    ∙ ap (λ (z : Desk _ _ _ × ℕ). pairs z.0.journal.entries.items ++ (z.1, k) ∷ [])
    (λ i. (is i, (c.counted.ensures ∙ (stop_count m ends v desk hand free k a p gone w tally plan shut).1) i)))
    (c.enter.ensures.limit ∙ ap (λ z. z.journal.limit) is) (ap (λ z. z.lent) is) (ap (λ z. z.strays) is) refl

pub returns-clause-rests : goal.returns-clause-rests
returns-clause-rests g c =
    let m = g.L.Revision.machine in
    let ends = g.L.Revision.ends in
    let v = c.args.place.now.me.0 in
    let old = c.args.desk.value in
    let held = c.deref_mut-held.result.now in
    let k = c.args.of in
    let a = c.args.at in
    let desk = record held { journal = c.reserve.new.self; plan = c.plan_join.new.plan } in
    let room = c.reserve.ensures.same in
    let same =
    same_room old held c.reserve.new.self c.plan_join.new.plan c.deref_mut-held.ensures.value room.0 room.1 in
    let told = c.requires.told in
    let hand = hand_same m ends v old desk told.1.hand same in
    let free : desk.state ≡ All = same.state ∙ c.requires.free in
    let p = pass_on m ends told.0.seat v.seat k told.1.same.1 told.1.same.3 told.2 in
    let plan : HasPlan desk (Commits k ∷ []) None None = c.plan_join.ensures in
    let gone = subst (λ s. IsGoneIn m ends v s (m.on a)) (sym (same_slots m ends v old desk told.1.hand same)) told.3 in
    let w = c.halt_twice-desk.new.place.me.0 in
    let tally = c.halt_twice-desk.result.1 in
    let shut = c.halt_twice-desk.ensures.shut in
    let is : c.deref_mut-last.result.now ≡ desk =
    c.deref_mut-last.ensures.value ∙ ap (λ x. x.value) c.halt_twice-desk.ensures.same in
    let at = c.put_home.ensures.rests in
    let r = stop_rests m ends v desk hand free k a p gone w tally plan shut c.put_home.new.place.me.0 (ap (λ x. x.0)
    at) in
    let limit = r.3 in
    (ap (λ x. x.0.seat.has) at, ap (λ x. x.1) at, r.0, r.1, r.2, omega arith)

pub returns-clause-mine : goal.returns-clause-mine
returns-clause-mine g c =
    let m = g.L.Revision.machine in
    let ends = g.L.Revision.ends in
    let v = c.args.place.now.me.0 in
    let old = c.args.desk.value in
    let held = c.deref_mut-held.result.now in
    let k = c.args.of in
    let a = c.args.at in
    let desk = record held { journal = c.reserve.new.self; plan = c.plan_join.new.plan } in
    let room = c.reserve.ensures.same in
    let same =
    same_room old held c.reserve.new.self c.plan_join.new.plan c.deref_mut-held.ensures.value room.0 room.1 in
    let told = c.requires.told in
    let hand = hand_same m ends v old desk told.1.hand same in
    let free : desk.state ≡ All = same.state ∙ c.requires.free in
    let p = pass_on m ends told.0.seat v.seat k told.1.same.1 told.1.same.3 told.2 in
    let plan : HasPlan desk (Commits k ∷ []) None None = c.plan_join.ensures in
    let gone = subst (λ s. IsGoneIn m ends v s (m.on a)) (sym (same_slots m ends v old desk told.1.hand same)) told.3 in
    let w = c.halt_twice-desk.new.place.me.0 in
    let tally = c.halt_twice-desk.result.1 in
    let shut = c.halt_twice-desk.ensures.shut in
    let is : c.deref_mut-last.result.now ≡ desk =
    c.deref_mut-last.ensures.value ∙ ap (λ x. x.value) c.halt_twice-desk.ensures.same in
    (stop_rests m ends v desk hand free k a p gone w tally plan shut c.put_home.new.place.me.0 (ap (λ x. x.0)
    c.put_home.ensures.rests)).4

pub returns-clause-answer : goal.returns-clause-answer
returns-clause-answer g c =
    let m = g.L.Revision.machine in
    let ends = g.L.Revision.ends in
    let v = c.args.place.now.me.0 in
    let old = c.args.desk.value in
    let held = c.deref_mut-held.result.now in
    let k = c.args.of in
    let a = c.args.at in
    let desk = record held { journal = c.reserve.new.self; plan = c.plan_join.new.plan } in
    let room = c.reserve.ensures.same in
    let same =
    same_room old held c.reserve.new.self c.plan_join.new.plan c.deref_mut-held.ensures.value room.0 room.1 in
    let told = c.requires.told in
    let hand = hand_same m ends v old desk told.1.hand same in
    let free : desk.state ≡ All = same.state ∙ c.requires.free in
    let p = pass_on m ends told.0.seat v.seat k told.1.same.1 told.1.same.3 told.2 in
    let plan : HasPlan desk (Commits k ∷ []) None None = c.plan_join.ensures in
    let gone = subst (λ s. IsGoneIn m ends v s (m.on a)) (sym (same_slots m ends v old desk told.1.hand same)) told.3 in
    let w = c.halt_twice-desk.new.place.me.0 in
    let tally = c.halt_twice-desk.result.1 in
    let shut = c.halt_twice-desk.ensures.shut in
    let is : c.deref_mut-last.result.now ≡ desk =
    c.deref_mut-last.ensures.value ∙ ap (λ x. x.value) c.halt_twice-desk.ensures.same in
    λ v0 h. (
      refl,
      stop_says m ends v desk hand free k a p gone w tally plan shut v0 c.put_home.new.place.me.0 (in_same m ends v0
          v old desk h same)
          (ap (λ x. x.0) c.put_home.ensures.rests),
    )

pub put_home_halted-requires-clause-hand : goal.put_home_halted-requires-clause-hand
put_home_halted-requires-clause-hand g c =
    let m = g.L.Revision.machine in
    let ends = g.L.Revision.ends in
    let v = c.args.place.now.me.0 in
    let old = c.args.desk.value in
    let held = c.deref_mut-held.result.now in
    let desk = record held { journal = c.reserve.new.self } in
    let room = c.reserve.ensures.same in
    let same =
    same_room old held c.reserve.new.self held.plan c.deref_mut-held.ensures.value room.0 room.1 in
    hand_same m ends v old desk c.requires.told.1.hand same

pub returns-then-not-reserve-clause-answer : goal.returns-then-not-reserve-clause-answer
returns-then-not-reserve-clause-answer g c =
    let m = g.L.Revision.machine in
    let ends = g.L.Revision.ends in
    let v = c.args.place.now.me.0 in
    let old = c.args.desk.value in
    let held = c.deref_mut-held.result.now in
    let desk = record held { journal = c.reserve.new.self } in
    let room = c.reserve.ensures.same in
    let same =
    same_room old held c.reserve.new.self held.plan c.deref_mut-held.ensures.value room.0 room.1 in
    λ v0 h. (refl, c.put_home_halted.ensures.halted v0 (in_same m ends v0 v old desk h same))
