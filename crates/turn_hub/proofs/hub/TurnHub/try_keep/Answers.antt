-- Answers of TurnHub::try_keep: the plan is carried out where the tally is as it was; the value is then as it says.
use Rattle.std.proofs.Common.{rules, ◌≡◌, ◌≢◌, ◌<◌, ◌*◌, ◌++◌, ℕ, true, false, ◌∷◌, Some, length, refl, sym, ap, ◌∙◌, subst, arith}
use Rattle.hub_core.specs.declared.status.Status.TheVariants.{Out}
use Rattle.hub_core.specs.declared.state.HubState.TheVariants.{All}
use Rattle.hub_core.specs.declared.desk.Desk.{Desk}
use Rattle.hub_core.specs.Chains.{IsWithin, chain_at}
use Rattle.hub_core.specs.Seats.{Owes}
use Rattle.hub_core.specs.Rounds.{stamped}
use Rattle.hub_core.specs.Tally.{record_at, pairs, entered as entered_by, HasDesk}
use Rattle.hub_core.proofs.Passes.{pass_named}
use Rattle.turn_hub.specs.Turns.{IsIn}
use Rattle.turn_hub.specs.Plans.{HasPlan, IsSettled, keep_deeds, lone_list, lone_of}
use Rattle.turn_hub.proofs.Values.{same_plan, hand_same, in_same}
use Rattle.turn_hub.proofs.Widths.{hand_room, in_room}
use Rattle.turn_hub.proofs.Lones.{settled_less, settled_length, taken_noted}
use Rattle.turn_hub.proofs.Keeps.{can_keep, keep_rests, keep_says, keep_fit, keep_within, keep_child, keep_mine, keep_hand}
use Rattle.turn_hub.proofs.hub.TurnHub.try_keep.Goals as goal

pub returns-in_default-clause-told : goal.returns-in_default-clause-told
returns-in_default-clause-told g c =
    let m = g.L.Revision.machine in
    let ends = g.L.Revision.ends in
    let open_ = c.open_number-desk.ensures in
    let v = c.open_number-desk.new.place.me.0 in
    let first = c.open_number-desk.result.0.value in
    let limit = open_.same.4 in
    let r = c.put_home_halted.ensures.rests in
    let more = r.5 in (
      (
        r.0,
        r.1,
        r.2 ∙ ap (λ x. x.parts) open_.same.2,
        r.3 ∙ ap (λ x. c.put_home_halted.new.place.me.0.seat.log ∷ x.turns) open_.same.2,
        r.4 ∙ open_.same.3,
        omega arith,
      ),
      c.put_home_halted.ensures.mine ∙ open_.same.1,
      (λ v0 h. c.put_home_halted.ensures.halted v0 (open_.told v0 h)),
    )

pub put_home_halted-requires-then-not-make_ready-clause-hand :
    goal.put_home_halted-requires-then-not-make_ready-clause-hand
put_home_halted-requires-then-not-make_ready-clause-hand g c =
    let m = g.L.Revision.machine in
    let ends = g.L.Revision.ends in
    let open_ = c.open_number-desk.ensures in
    let v = c.open_number-desk.new.place.me.0 in
    let first = c.open_number-desk.result.0.value in
    let limit = open_.same.4 in
    let held = c.deref_mut-held.result.now in
    let was = subst (λ x. HasDesk m ends v x) (sym c.deref_mut-held.ensures.value) open_.hand in
    let ready = c.make_ready.new.desk in
    let roomy = hand_room m ends v held ready was c.make_ready.ensures.same in
    roomy

pub returns-then-not-make_ready-clause-told : goal.returns-then-not-make_ready-clause-told
returns-then-not-make_ready-clause-told g c =
    let m = g.L.Revision.machine in
    let ends = g.L.Revision.ends in
    let open_ = c.open_number-desk.ensures in
    let v = c.open_number-desk.new.place.me.0 in
    let first = c.open_number-desk.result.0.value in
    let limit = open_.same.4 in
    let held = c.deref_mut-held.result.now in
    let was = subst (λ x. HasDesk m ends v x) (sym c.deref_mut-held.ensures.value) open_.hand in
    let ready = c.make_ready.new.desk in
    let roomy = hand_room m ends v held ready was c.make_ready.ensures.same in
    let halted = c.put_home_halted-then-not-make_ready in
    let r = halted.ensures.rests in
    let more = r.5 in (
      (
        r.0,
        r.1,
        r.2 ∙ ap (λ x. x.parts) open_.same.2,
        r.3 ∙ ap (λ x. halted.new.place.me.0.seat.log ∷ x.turns) open_.same.2,
        r.4 ∙ open_.same.3,
        omega arith,
      ),
      halted.ensures.mine ∙ open_.same.1,
      (λ v0 h. halted.ensures.halted v0
          (in_room m ends v0 v held ready
          (subst (λ x. IsIn m ends v0 v x) (sym c.deref_mut-held.ensures.value) (open_.told v0 h))
          c.make_ready.ensures.same)),
    )

pub carry_fork-desk-requires-clause-can : goal.carry_fork-desk-requires-clause-can
carry_fork-desk-requires-clause-can g c =
    let m = g.L.Revision.machine in
    let ends = g.L.Revision.ends in
    let open_ = c.open_number-desk.ensures in
    let v = c.open_number-desk.new.place.me.0 in
    let first = c.open_number-desk.result.0.value in
    let limit = open_.same.4 in
    let held = c.deref_mut-held.result.now in
    let was = subst (λ x. HasDesk m ends v x) (sym c.deref_mut-held.ensures.value) open_.hand in
    let ready = c.make_ready.new.desk in
    let roomy = hand_room m ends v held ready was c.make_ready.ensures.same in
    let i = c.args.joinee in
    let k = c.args.of in
    let n = c.in-Some.number in
    let b = c.args.lone in
    let kept = c.may_keep-kept.result in
    let desk = record ready { plan = c.plan_keep.new.plan } in
    let same = same_plan ready ready c.plan_keep.new.plan refl in
    let hand = hand_same m ends v ready desk roomy same in
    let free : desk.state ≡ All =
    c.make_ready.ensures.same.state ∙ (ap (λ x. x.state) c.deref_mut-held.ensures.value ∙ (open_.same.0 ∙
    c.requires.free)) in
    let mine : v.mine ≡ lone_list b i = open_.same.1 ∙ c.requires.mine in
    let event = c.requires.event in
    let l = event.0 in
    let owes : Owes m ends v.seat i k l = subst (λ x. Owes m ends x i k l) (sym open_.same.2) event.2 in
    let has = pass_named v.seat.passes i owes.ended.1 owes.ended.3 in
    let e = c.plan_keep.ensures in
    let plan : HasPlan desk (keep_deeds i k n) (lone_of b i) (lone_of kept n) = (e.deeds, e.leaves, e.keeps) in
    can_keep m ends v desk hand free b i mine has k l owes event.1 c.args.child.now event.3 n kept plan e.forks

pub returns-then-tally-number-clause-told : goal.returns-then-tally-number-clause-told
returns-then-tally-number-clause-told g c =
    let m = g.L.Revision.machine in
    let ends = g.L.Revision.ends in
    let open_ = c.open_number-desk.ensures in
    let v = c.open_number-desk.new.place.me.0 in
    let first = c.open_number-desk.result.0.value in
    let limit = open_.same.4 in
    let held = c.deref_mut-held.result.now in
    let was = subst (λ x. HasDesk m ends v x) (sym c.deref_mut-held.ensures.value) open_.hand in
    let ready = c.make_ready.new.desk in
    let roomy = hand_room m ends v held ready was c.make_ready.ensures.same in
    let i = c.args.joinee in
    let k = c.args.of in
    let n = c.in-Some.number in
    let b = c.args.lone in
    let kept = c.may_keep-kept.result in
    let desk = record ready { plan = c.plan_keep.new.plan } in
    let same = same_plan ready ready c.plan_keep.new.plan refl in
    let hand = hand_same m ends v ready desk roomy same in
    let free : desk.state ≡ All =
    c.make_ready.ensures.same.state ∙ (ap (λ x. x.state) c.deref_mut-held.ensures.value ∙ (open_.same.0 ∙
    c.requires.free)) in
    let mine : v.mine ≡ lone_list b i = open_.same.1 ∙ c.requires.mine in
    let event = c.requires.event in
    let l = event.0 in
    let owes : Owes m ends v.seat i k l = subst (λ x. Owes m ends x i k l) (sym open_.same.2) event.2 in
    let has = pass_named v.seat.passes i owes.ended.1 owes.ended.3 in
    let e = c.plan_keep.ensures in
    let plan : HasPlan desk (keep_deeds i k n) (lone_of b i) (lone_of kept n) = (e.deeds, e.leaves, e.keeps) in
    let w = c.carry_fork-desk.new.place.me.0 in
    let tally = c.carry_fork-desk.result.1 in
    let other : tally ≢ 2 * n = search rules in
    let view = c.carry_fork-desk.ensures.missed other in
    let is = ap (λ x. x.value) c.carry_fork-desk.ensures.same in (
      c.carry_fork-desk.ensures.own.1,
      subst (λ x. HasDesk m ends w x) (sym is) (subst (λ x. HasDesk m ends x desk) (sym view) hand),
      ap (λ x. x.state) is ∙ free,
      ap (λ x. x.mine) view ∙ open_.same.1,
      ap (λ x. x.seat) view ∙ open_.same.2,
      ap (λ x. x.rounds) view ∙ open_.same.3,
      (let a = ap (λ x. x.limit) view in omega arith),
      (λ v0 h. subst (λ x. IsIn m ends v0 w x) (sym is)
          (subst (λ x. IsIn m ends v0 x desk) (sym view)
          (in_same m ends v0 v ready desk
          (in_room m ends v0 v held ready
          (subst (λ x. IsIn m ends v0 v x) (sym c.deref_mut-held.ensures.value) (open_.told v0 h))
          c.make_ready.ensures.same) same))),
    )

pub settle_value-requires-clause-record : goal.settle_value-requires-clause-record
settle_value-requires-clause-record g c =
    let m = g.L.Revision.machine in
    let ends = g.L.Revision.ends in
    let open_ = c.open_number-desk.ensures in
    let v = c.open_number-desk.new.place.me.0 in
    let first = c.open_number-desk.result.0.value in
    let limit = open_.same.4 in
    let held = c.deref_mut-held.result.now in
    let was = subst (λ x. HasDesk m ends v x) (sym c.deref_mut-held.ensures.value) open_.hand in
    let ready = c.make_ready.new.desk in
    let roomy = hand_room m ends v held ready was c.make_ready.ensures.same in
    let i = c.args.joinee in
    let k = c.args.of in
    let n = c.in-Some.number in
    let b = c.args.lone in
    let kept = c.may_keep-kept.result in
    let desk = record ready { plan = c.plan_keep.new.plan } in
    let same = same_plan ready ready c.plan_keep.new.plan refl in
    let hand = hand_same m ends v ready desk roomy same in
    let free : desk.state ≡ All =
    c.make_ready.ensures.same.state ∙ (ap (λ x. x.state) c.deref_mut-held.ensures.value ∙ (open_.same.0 ∙
    c.requires.free)) in
    let mine : v.mine ≡ lone_list b i = open_.same.1 ∙ c.requires.mine in
    let event = c.requires.event in
    let l = event.0 in
    let owes : Owes m ends v.seat i k l = subst (λ x. Owes m ends x i k l) (sym open_.same.2) event.2 in
    let has = pass_named v.seat.passes i owes.ended.1 owes.ended.3 in
    let e = c.plan_keep.ensures in
    let plan : HasPlan desk (keep_deeds i k n) (lone_of b i) (lone_of kept n) = (e.deeds, e.leaves, e.keeps) in
    let w = c.carry_fork-desk.new.place.me.0 in
    let tally = c.carry_fork-desk.result.1 in
    let hit : tally ≡ 2 * n = search rules in
    let entered = c.carry_fork-desk.ensures.entered hit in
    let is : c.deref_mut-last.result.now ≡ desk =
    c.deref_mut-last.ensures.value ∙ ap (λ x. x.value) c.carry_fork-desk.ensures.same in
    subst (λ (x : Desk _ _ _). b ≡ false → (record_at x.records.list.items i ≡ Some Out) × (i < length
    x.records.queue.waiters.items)
    × IsWithin (chain_at x.records.queue.waiters.items i) (length x.records.queue.links.items))
    (sym is) (keep_within m ends v desk hand free b i mine has k l owes event.1 c.args.child.now event.3 n kept w
    tally plan e.forks entered hit).0

pub settle_value-requires-clause-some : goal.settle_value-requires-clause-some
settle_value-requires-clause-some g c =
    let m = g.L.Revision.machine in
    let ends = g.L.Revision.ends in
    let open_ = c.open_number-desk.ensures in
    let v = c.open_number-desk.new.place.me.0 in
    let first = c.open_number-desk.result.0.value in
    let limit = open_.same.4 in
    let held = c.deref_mut-held.result.now in
    let was = subst (λ x. HasDesk m ends v x) (sym c.deref_mut-held.ensures.value) open_.hand in
    let ready = c.make_ready.new.desk in
    let roomy = hand_room m ends v held ready was c.make_ready.ensures.same in
    let i = c.args.joinee in
    let k = c.args.of in
    let n = c.in-Some.number in
    let b = c.args.lone in
    let kept = c.may_keep-kept.result in
    let desk = record ready { plan = c.plan_keep.new.plan } in
    let same = same_plan ready ready c.plan_keep.new.plan refl in
    let hand = hand_same m ends v ready desk roomy same in
    let free : desk.state ≡ All =
    c.make_ready.ensures.same.state ∙ (ap (λ x. x.state) c.deref_mut-held.ensures.value ∙ (open_.same.0 ∙
    c.requires.free)) in
    let mine : v.mine ≡ lone_list b i = open_.same.1 ∙ c.requires.mine in
    let event = c.requires.event in
    let l = event.0 in
    let owes : Owes m ends v.seat i k l = subst (λ x. Owes m ends x i k l) (sym open_.same.2) event.2 in
    let has = pass_named v.seat.passes i owes.ended.1 owes.ended.3 in
    let e = c.plan_keep.ensures in
    let plan : HasPlan desk (keep_deeds i k n) (lone_of b i) (lone_of kept n) = (e.deeds, e.leaves, e.keeps) in
    let w = c.carry_fork-desk.new.place.me.0 in
    let tally = c.carry_fork-desk.result.1 in
    let hit : tally ≡ 2 * n = search rules in
    let entered = c.carry_fork-desk.ensures.entered hit in
    let is : c.deref_mut-last.result.now ≡ desk =
    c.deref_mut-last.ensures.value ∙ ap (λ x. x.value) c.carry_fork-desk.ensures.same in
    subst (λ (x : Desk _ _ _). 0 < x.records.queue.unfinished) (sym is) (keep_within m ends v desk hand free b i
    mine has k l owes event.1 c.args.child.now event.3 n kept w tally plan e.forks entered hit).1

pub settle_value-requires-clause-lent : goal.settle_value-requires-clause-lent
settle_value-requires-clause-lent g c =
    let m = g.L.Revision.machine in
    let ends = g.L.Revision.ends in
    let open_ = c.open_number-desk.ensures in
    let v = c.open_number-desk.new.place.me.0 in
    let first = c.open_number-desk.result.0.value in
    let limit = open_.same.4 in
    let held = c.deref_mut-held.result.now in
    let was = subst (λ x. HasDesk m ends v x) (sym c.deref_mut-held.ensures.value) open_.hand in
    let ready = c.make_ready.new.desk in
    let roomy = hand_room m ends v held ready was c.make_ready.ensures.same in
    let i = c.args.joinee in
    let k = c.args.of in
    let n = c.in-Some.number in
    let b = c.args.lone in
    let kept = c.may_keep-kept.result in
    let desk = record ready { plan = c.plan_keep.new.plan } in
    let same = same_plan ready ready c.plan_keep.new.plan refl in
    let hand = hand_same m ends v ready desk roomy same in
    let free : desk.state ≡ All =
    c.make_ready.ensures.same.state ∙ (ap (λ x. x.state) c.deref_mut-held.ensures.value ∙ (open_.same.0 ∙
    c.requires.free)) in
    let mine : v.mine ≡ lone_list b i = open_.same.1 ∙ c.requires.mine in
    let event = c.requires.event in
    let l = event.0 in
    let owes : Owes m ends v.seat i k l = subst (λ x. Owes m ends x i k l) (sym open_.same.2) event.2 in
    let has = pass_named v.seat.passes i owes.ended.1 owes.ended.3 in
    let e = c.plan_keep.ensures in
    let plan : HasPlan desk (keep_deeds i k n) (lone_of b i) (lone_of kept n) = (e.deeds, e.leaves, e.keeps) in
    let w = c.carry_fork-desk.new.place.me.0 in
    let tally = c.carry_fork-desk.result.1 in
    let hit : tally ≡ 2 * n = search rules in
    let entered = c.carry_fork-desk.ensures.entered hit in
    let is : c.deref_mut-last.result.now ≡ desk =
    c.deref_mut-last.ensures.value ∙ ap (λ x. x.value) c.carry_fork-desk.ensures.same in
    subst (λ (x : Desk _ _ _). b ≡ true → 0 < x.lent) (sym is) (keep_within m ends v desk hand free b i mine has k l
    owes event.1 c.args.child.now event.3 n kept w tally plan e.forks entered hit).2

pub take_value-requires-clause-record : goal.take_value-requires-clause-record
take_value-requires-clause-record g c =
    let m = g.L.Revision.machine in
    let ends = g.L.Revision.ends in
    let open_ = c.open_number-desk.ensures in
    let v = c.open_number-desk.new.place.me.0 in
    let first = c.open_number-desk.result.0.value in
    let limit = open_.same.4 in
    let held = c.deref_mut-held.result.now in
    let was = subst (λ x. HasDesk m ends v x) (sym c.deref_mut-held.ensures.value) open_.hand in
    let ready = c.make_ready.new.desk in
    let roomy = hand_room m ends v held ready was c.make_ready.ensures.same in
    let i = c.args.joinee in
    let k = c.args.of in
    let n = c.in-Some.number in
    let b = c.args.lone in
    let kept = c.may_keep-kept.result in
    let desk = record ready { plan = c.plan_keep.new.plan } in
    let same = same_plan ready ready c.plan_keep.new.plan refl in
    let hand = hand_same m ends v ready desk roomy same in
    let free : desk.state ≡ All =
    c.make_ready.ensures.same.state ∙ (ap (λ x. x.state) c.deref_mut-held.ensures.value ∙ (open_.same.0 ∙
    c.requires.free)) in
    let mine : v.mine ≡ lone_list b i = open_.same.1 ∙ c.requires.mine in
    let event = c.requires.event in
    let l = event.0 in
    let owes : Owes m ends v.seat i k l = subst (λ x. Owes m ends x i k l) (sym open_.same.2) event.2 in
    let has = pass_named v.seat.passes i owes.ended.1 owes.ended.3 in
    let e = c.plan_keep.ensures in
    let plan : HasPlan desk (keep_deeds i k n) (lone_of b i) (lone_of kept n) = (e.deeds, e.leaves, e.keeps) in
    let w = c.carry_fork-desk.new.place.me.0 in
    let tally = c.carry_fork-desk.result.1 in
    let hit : tally ≡ 2 * n = search rules in
    let entered = c.carry_fork-desk.ensures.entered hit in
    let is : c.deref_mut-last.result.now ≡ desk =
    c.deref_mut-last.ensures.value ∙ ap (λ x. x.value) c.carry_fork-desk.ensures.same in
    let one = c.settle_value.new.desk in
    let done : IsSettled b i desk one = subst (λ x. IsSettled b i x one) is c.settle_value.ensures.settled in
    let ready_yes : c.make_ready.result ≡ true = search rules in
    λ q. (
      (keep_child m ends v desk hand free b i mine has k l owes event.1 c.args.child.now event.3 n kept w tally plan
          e.forks entered hit one done).0,
      (let a = c.make_ready.ensures.reach ready_yes q in let z = settled_length b i desk one done in omega arith),
    )

pub take_value-requires-clause-few : goal.take_value-requires-clause-few
take_value-requires-clause-few g c =
    let m = g.L.Revision.machine in
    let ends = g.L.Revision.ends in
    let open_ = c.open_number-desk.ensures in
    let v = c.open_number-desk.new.place.me.0 in
    let first = c.open_number-desk.result.0.value in
    let limit = open_.same.4 in
    let held = c.deref_mut-held.result.now in
    let was = subst (λ x. HasDesk m ends v x) (sym c.deref_mut-held.ensures.value) open_.hand in
    let ready = c.make_ready.new.desk in
    let roomy = hand_room m ends v held ready was c.make_ready.ensures.same in
    let i = c.args.joinee in
    let k = c.args.of in
    let n = c.in-Some.number in
    let b = c.args.lone in
    let kept = c.may_keep-kept.result in
    let desk = record ready { plan = c.plan_keep.new.plan } in
    let same = same_plan ready ready c.plan_keep.new.plan refl in
    let hand = hand_same m ends v ready desk roomy same in
    let free : desk.state ≡ All =
    c.make_ready.ensures.same.state ∙ (ap (λ x. x.state) c.deref_mut-held.ensures.value ∙ (open_.same.0 ∙
    c.requires.free)) in
    let mine : v.mine ≡ lone_list b i = open_.same.1 ∙ c.requires.mine in
    let event = c.requires.event in
    let l = event.0 in
    let owes : Owes m ends v.seat i k l = subst (λ x. Owes m ends x i k l) (sym open_.same.2) event.2 in
    let has = pass_named v.seat.passes i owes.ended.1 owes.ended.3 in
    let e = c.plan_keep.ensures in
    let plan : HasPlan desk (keep_deeds i k n) (lone_of b i) (lone_of kept n) = (e.deeds, e.leaves, e.keeps) in
    let w = c.carry_fork-desk.new.place.me.0 in
    let tally = c.carry_fork-desk.result.1 in
    let hit : tally ≡ 2 * n = search rules in
    let entered = c.carry_fork-desk.ensures.entered hit in
    let is : c.deref_mut-last.result.now ≡ desk =
    c.deref_mut-last.ensures.value ∙ ap (λ x. x.value) c.carry_fork-desk.ensures.same in
    let one = c.settle_value.new.desk in
    let done : IsSettled b i desk one = subst (λ x. IsSettled b i x one) is c.settle_value.ensures.settled in
    let ready_yes : c.make_ready.result ≡ true = search rules in
    let few = (keep_child m ends v desk hand free b i mine has k l owes event.1 c.args.child.now event.3 n kept w
    tally plan e.forks entered hit one done).1 in
    let less = settled_less b i desk one done in
    let most = (c.make_ready.ensures.room ready_yes).1 in
    let fits : n < 4294967296 = search rules in
    (omega arith, omega arith)

pub put_home-requires-clause-hand : goal.put_home-requires-clause-hand
put_home-requires-clause-hand g c =
    let m = g.L.Revision.machine in
    let ends = g.L.Revision.ends in
    let open_ = c.open_number-desk.ensures in
    let v = c.open_number-desk.new.place.me.0 in
    let first = c.open_number-desk.result.0.value in
    let limit = open_.same.4 in
    let held = c.deref_mut-held.result.now in
    let was = subst (λ x. HasDesk m ends v x) (sym c.deref_mut-held.ensures.value) open_.hand in
    let ready = c.make_ready.new.desk in
    let roomy = hand_room m ends v held ready was c.make_ready.ensures.same in
    let i = c.args.joinee in
    let k = c.args.of in
    let n = c.in-Some.number in
    let b = c.args.lone in
    let kept = c.may_keep-kept.result in
    let desk = record ready { plan = c.plan_keep.new.plan } in
    let same = same_plan ready ready c.plan_keep.new.plan refl in
    let hand = hand_same m ends v ready desk roomy same in
    let free : desk.state ≡ All =
    c.make_ready.ensures.same.state ∙ (ap (λ x. x.state) c.deref_mut-held.ensures.value ∙ (open_.same.0 ∙
    c.requires.free)) in
    let mine : v.mine ≡ lone_list b i = open_.same.1 ∙ c.requires.mine in
    let event = c.requires.event in
    let l = event.0 in
    let owes : Owes m ends v.seat i k l = subst (λ x. Owes m ends x i k l) (sym open_.same.2) event.2 in
    let has = pass_named v.seat.passes i owes.ended.1 owes.ended.3 in
    let e = c.plan_keep.ensures in
    let plan : HasPlan desk (keep_deeds i k n) (lone_of b i) (lone_of kept n) = (e.deeds, e.leaves, e.keeps) in
    let w = c.carry_fork-desk.new.place.me.0 in
    let tally = c.carry_fork-desk.result.1 in
    let hit : tally ≡ 2 * n = search rules in
    let entered = c.carry_fork-desk.ensures.entered hit in
    let is : c.deref_mut-last.result.now ≡ desk =
    c.deref_mut-last.ensures.value ∙ ap (λ x. x.value) c.carry_fork-desk.ensures.same in
    let one = c.settle_value.new.desk in
    let done : IsSettled b i desk one = subst (λ x. IsSettled b i x one) is c.settle_value.ensures.settled in
    let ready_yes : c.make_ready.result ≡ true = search rules in
    let last = c.take_value.new.desk in
    let desk' = record last { journal = c.note_keep.new.journal } in
    let took = c.take_value.ensures in
    let s = c.settle_value.ensures.same in
    let fit = keep_fit m ends v desk hand free b i mine has k l owes event.1 c.args.child.now event.3 n kept w tally
    plan e.forks entered hit in
    keep_hand m ends v desk hand free b i mine has k l owes event.1 c.args.child.now event.3 n kept w tally plan
    e.forks entered hit one desk' done (λ q. c.may_keep-kept.ensures (sym c.make_ready.ensures.same.strays ∙ q))
    (taken_noted kept n one last c.note_keep.new.journal took.taken) took.born (λ q. c.make_ready.ensures.reach
    ready_yes q)
    (c.note_keep.ensures.entries
    ∙ ap (λ (z : _ × ℕ). pairs z.0 ++ stamped z.1 (entered_by (keep_deeds i k n)))
    (λ j. ((ap (λ x. x.entries.items) (took.same.0 ∙ s.0) ∙ ap (λ x. x.journal.entries.items) is) j, sym fit j)))
    (took.same.1 ∙ (s.1 ∙ ap (λ x. x.state) is))
    (c.note_keep.ensures.limit ∙ (ap (λ x. x.limit) (took.same.0 ∙ s.0) ∙ ap (λ x. x.journal.limit) is))
    (took.same.2 ∙ (s.2 ∙ ap (λ x. x.strays) is))

pub returns-clause-told : goal.returns-clause-told
returns-clause-told g c =
    let m = g.L.Revision.machine in
    let ends = g.L.Revision.ends in
    let open_ = c.open_number-desk.ensures in
    let v = c.open_number-desk.new.place.me.0 in
    let first = c.open_number-desk.result.0.value in
    let limit = open_.same.4 in
    let held = c.deref_mut-held.result.now in
    let was = subst (λ x. HasDesk m ends v x) (sym c.deref_mut-held.ensures.value) open_.hand in
    let ready = c.make_ready.new.desk in
    let roomy = hand_room m ends v held ready was c.make_ready.ensures.same in
    let i = c.args.joinee in
    let k = c.args.of in
    let n = c.in-Some.number in
    let b = c.args.lone in
    let kept = c.may_keep-kept.result in
    let desk = record ready { plan = c.plan_keep.new.plan } in
    let same = same_plan ready ready c.plan_keep.new.plan refl in
    let hand = hand_same m ends v ready desk roomy same in
    let free : desk.state ≡ All =
    c.make_ready.ensures.same.state ∙ (ap (λ x. x.state) c.deref_mut-held.ensures.value ∙ (open_.same.0 ∙
    c.requires.free)) in
    let mine : v.mine ≡ lone_list b i = open_.same.1 ∙ c.requires.mine in
    let event = c.requires.event in
    let l = event.0 in
    let owes : Owes m ends v.seat i k l = subst (λ x. Owes m ends x i k l) (sym open_.same.2) event.2 in
    let has = pass_named v.seat.passes i owes.ended.1 owes.ended.3 in
    let e = c.plan_keep.ensures in
    let plan : HasPlan desk (keep_deeds i k n) (lone_of b i) (lone_of kept n) = (e.deeds, e.leaves, e.keeps) in
    let w = c.carry_fork-desk.new.place.me.0 in
    let tally = c.carry_fork-desk.result.1 in
    let hit : tally ≡ 2 * n = search rules in
    let entered = c.carry_fork-desk.ensures.entered hit in
    let is : c.deref_mut-last.result.now ≡ desk =
    c.deref_mut-last.ensures.value ∙ ap (λ x. x.value) c.carry_fork-desk.ensures.same in
    let one = c.settle_value.new.desk in
    let done : IsSettled b i desk one = subst (λ x. IsSettled b i x one) is c.settle_value.ensures.settled in
    let ready_yes : c.make_ready.result ≡ true = search rules in
    let at = c.put_home.ensures.rests in
    let x = c.put_home.new.place.me.0 in
    let x_is = ap (λ z. z.0) at in
    let r = keep_rests m ends v desk hand free b i mine has k l owes event.1 c.args.child.now event.3 n kept w tally
    plan e.forks entered hit x x_is in
    let r3 = r.3 in
    let took = c.take_value.ensures in
    let s = c.settle_value.ensures.same in
    let lim = c.note_keep.ensures.limit ∙ (ap (λ y. y.limit) (took.same.0 ∙ s.0) ∙ ap (λ y. y.journal.limit) is) in
    let lim2 = hand.limit_is in (
      (
        ap (λ z. z.0.seat.has) at,
        ap (λ z. z.1) at,
        r.0 ∙ ap (λ y. y.parts) open_.same.2,
        r.1 ∙ ap (λ y. x.seat.log ∷ y.turns) open_.same.2,
        r.2 ∙ open_.same.3,
        omega arith,
      ),
      r.4 ∙ keep_mine m ends v desk hand free b i mine has k l owes event.1 c.args.child.now event.3 n kept,
      omega arith,
      (λ v0 h l0 owes0. keep_says m ends v desk hand free b i mine has k l owes event.1 c.args.child.now event.3 n
          kept w tally plan e.forks entered hit v0 x
          (in_same m ends v0 v ready desk
          (in_room m ends v0 v held ready
          (subst (λ y. IsIn m ends v0 v y) (sym c.deref_mut-held.ensures.value) (open_.told v0 h))
          c.make_ready.ensures.same) same)
          x_is (c.requires.group ∙ sym (ap (λ y. y.group) open_.same.2)) l0 owes0),
    )
