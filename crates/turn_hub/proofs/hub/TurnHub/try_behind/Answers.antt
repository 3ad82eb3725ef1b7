-- Answers of TurnHub::try_behind: the plan is carried out where the tally is as it was;
-- joinee and child are as it says.
use Rattle.std.proofs.Common.{rules, ◌≡◌, ◌≢◌, ◌<◌, ◌*◌, ◌++◌, ℕ, true, false, ◌∷◌, None, Some, length, refl, sym, ap, ◌∙◌, subst, arith}
use Rattle.hub_core.specs.declared.status.Status.TheVariants.{Out}
use Rattle.hub_core.specs.declared.state.HubState.TheVariants.{All}
use Rattle.hub_core.specs.declared.desk.Desk.{Desk}
use Rattle.hub_core.specs.Chains.{IsWithin, chain_at}
use Rattle.hub_core.specs.Rounds.{stamped}
use Rattle.hub_core.specs.Seats.{Owes}
use Rattle.hub_core.specs.Tally.{record_at, pairs, entered as entered_by, HasDesk}
use Rattle.hub_core.proofs.Passes.{pass_named}
use Rattle.turn_hub.specs.Turns.{IsIn}
use Rattle.turn_hub.specs.Plans.{HasPlan, IsSettled, behind_deeds, lone_list, lone_of}
use Rattle.turn_hub.proofs.Values.{same_plan, hand_same, in_same}
use Rattle.turn_hub.proofs.Widths.{hand_room, in_room}
use Rattle.turn_hub.proofs.Lones.{settled_length}
use Rattle.turn_hub.proofs.Behinds.{can_behind, behind_rests, behind_says, behind_fit, behind_child, behind_links, behind_within, behind_mine, behind_hand}
use Rattle.turn_hub.proofs.hub.TurnHub.try_behind.Goals as goal

pub returns-in_default-clause-told : goal.returns-in_default-clause-told
returns-in_default-clause-told g c =
    let m = g.L.Revision.machine in
    let ends = g.L.Revision.ends in
    let open_ = c.open_number-desk.ensures in
    let v = c.open_number-desk.new.place.me.0 in
    let first = c.open_number-desk.result.0.value in
    let limit = open_.same.4 in
    let r = c.put_home_halted.ensures.rests in
    let more = r.5 in (
      (
        r.0,
        r.1,
        r.2 ∙ ap (λ x. x.parts) open_.same.2,
        r.3 ∙ ap (λ x. c.put_home_halted.new.place.me.0.seat.log ∷ x.turns) open_.same.2,
        r.4 ∙ open_.same.3,
        omega arith,
      ),
      c.put_home_halted.ensures.mine ∙ open_.same.1,
      (λ v0 h. c.put_home_halted.ensures.halted v0 (open_.told v0 h)),
      refl,
    )

pub put_home_halted-requires-then-not-make_behind-clause-hand :
    goal.put_home_halted-requires-then-not-make_behind-clause-hand
put_home_halted-requires-then-not-make_behind-clause-hand g c =
    let m = g.L.Revision.machine in
    let ends = g.L.Revision.ends in
    let open_ = c.open_number-desk.ensures in
    let v = c.open_number-desk.new.place.me.0 in
    let first = c.open_number-desk.result.0.value in
    let limit = open_.same.4 in
    let held = c.deref_mut-held.result.now in
    let was = subst (λ x. HasDesk m ends v x) (sym c.deref_mut-held.ensures.value) open_.hand in
    let ready = c.make_behind.new.desk in
    let roomy = hand_room m ends v held ready was c.make_behind.ensures.same in
    roomy

pub returns-then-not-make_behind-clause-told : goal.returns-then-not-make_behind-clause-told
returns-then-not-make_behind-clause-told g c =
    let m = g.L.Revision.machine in
    let ends = g.L.Revision.ends in
    let open_ = c.open_number-desk.ensures in
    let v = c.open_number-desk.new.place.me.0 in
    let first = c.open_number-desk.result.0.value in
    let limit = open_.same.4 in
    let held = c.deref_mut-held.result.now in
    let was = subst (λ x. HasDesk m ends v x) (sym c.deref_mut-held.ensures.value) open_.hand in
    let ready = c.make_behind.new.desk in
    let roomy = hand_room m ends v held ready was c.make_behind.ensures.same in
    let halted = c.put_home_halted-then-not-make_behind in
    let r = halted.ensures.rests in
    let more = r.5 in (
      (
        r.0,
        r.1,
        r.2 ∙ ap (λ x. x.parts) open_.same.2,
        r.3 ∙ ap (λ x. halted.new.place.me.0.seat.log ∷ x.turns) open_.same.2,
        r.4 ∙ open_.same.3,
        omega arith,
      ),
      halted.ensures.mine ∙ open_.same.1,
      (λ v0 h. halted.ensures.halted v0
          (in_room m ends v0 v held ready
          (subst (λ x. IsIn m ends v0 v x) (sym c.deref_mut-held.ensures.value) (open_.told v0 h))
          c.make_behind.ensures.same)),
      refl,
    )

pub carry_fork-desk-requires-clause-can : goal.carry_fork-desk-requires-clause-can
carry_fork-desk-requires-clause-can g c =
    let m = g.L.Revision.machine in
    let ends = g.L.Revision.ends in
    let open_ = c.open_number-desk.ensures in
    let v = c.open_number-desk.new.place.me.0 in
    let first = c.open_number-desk.result.0.value in
    let limit = open_.same.4 in
    let held = c.deref_mut-held.result.now in
    let was = subst (λ x. HasDesk m ends v x) (sym c.deref_mut-held.ensures.value) open_.hand in
    let ready = c.make_behind.new.desk in
    let roomy = hand_room m ends v held ready was c.make_behind.ensures.same in
    let k = c.args.of in
    let n = c.in-Some.number in
    let desk = record ready { plan = c.plan_behind.new.plan } in
    let same = same_plan ready ready c.plan_behind.new.plan refl in
    let hand = hand_same m ends v ready desk roomy same in
    let free : desk.state ≡ All =
    c.make_behind.ensures.same.state ∙ (ap (λ x. x.state) c.deref_mut-held.ensures.value ∙ (open_.same.0 ∙
    c.requires.free)) in
    let i = c.args.joinee in
    let b = c.args.lone in
    let mine : v.mine ≡ lone_list b i = open_.same.1 ∙ c.requires.mine in
    let event = c.requires.event in
    let l = event.0 in
    let owes : Owes m ends v.seat i k l = subst (λ x. Owes m ends x i k l) (sym open_.same.2) event.2 in
    let has = pass_named v.seat.passes i owes.ended.1 owes.ended.3 in
    let e = c.plan_behind.ensures in
    let plan : HasPlan desk (behind_deeds i k) (lone_of b i) None = (e.deeds, e.kept.0, e.kept.1) in
    can_behind m ends v desk hand free b i mine has k l owes event.1 c.args.child event.3 n plan e.forks

pub returns-then-tally-number-clause-told : goal.returns-then-tally-number-clause-told
returns-then-tally-number-clause-told g c =
    let m = g.L.Revision.machine in
    let ends = g.L.Revision.ends in
    let open_ = c.open_number-desk.ensures in
    let v = c.open_number-desk.new.place.me.0 in
    let first = c.open_number-desk.result.0.value in
    let limit = open_.same.4 in
    let held = c.deref_mut-held.result.now in
    let was = subst (λ x. HasDesk m ends v x) (sym c.deref_mut-held.ensures.value) open_.hand in
    let ready = c.make_behind.new.desk in
    let roomy = hand_room m ends v held ready was c.make_behind.ensures.same in
    let k = c.args.of in
    let n = c.in-Some.number in
    let desk = record ready { plan = c.plan_behind.new.plan } in
    let same = same_plan ready ready c.plan_behind.new.plan refl in
    let hand = hand_same m ends v ready desk roomy same in
    let free : desk.state ≡ All =
    c.make_behind.ensures.same.state ∙ (ap (λ x. x.state) c.deref_mut-held.ensures.value ∙ (open_.same.0 ∙
    c.requires.free)) in
    let i = c.args.joinee in
    let b = c.args.lone in
    let mine : v.mine ≡ lone_list b i = open_.same.1 ∙ c.requires.mine in
    let event = c.requires.event in
    let l = event.0 in
    let owes : Owes m ends v.seat i k l = subst (λ x. Owes m ends x i k l) (sym open_.same.2) event.2 in
    let has = pass_named v.seat.passes i owes.ended.1 owes.ended.3 in
    let e = c.plan_behind.ensures in
    let plan : HasPlan desk (behind_deeds i k) (lone_of b i) None = (e.deeds, e.kept.0, e.kept.1) in
    let w = c.carry_fork-desk.new.place.me.0 in
    let tally = c.carry_fork-desk.result.1 in
    let other : tally ≢ 2 * n = search rules in
    let view = c.carry_fork-desk.ensures.missed other in
    let is = ap (λ x. x.value) c.carry_fork-desk.ensures.same in (
      c.carry_fork-desk.ensures.own.1,
      subst (λ x. HasDesk m ends w x) (sym is) (subst (λ x. HasDesk m ends x desk) (sym view) hand),
      ap (λ x. x.state) is ∙ free,
      ap (λ x. x.mine) view ∙ open_.same.1,
      ap (λ x. x.seat) view ∙ open_.same.2,
      ap (λ x. x.rounds) view ∙ open_.same.3,
      (let a = ap (λ x. x.limit) view in omega arith),
      (λ v0 h. subst (λ x. IsIn m ends v0 w x) (sym is)
          (subst (λ x. IsIn m ends v0 x desk) (sym view)
          (in_same m ends v0 v ready desk
          (in_room m ends v0 v held ready
          (subst (λ x. IsIn m ends v0 v x) (sym c.deref_mut-held.ensures.value) (open_.told v0 h))
          c.make_behind.ensures.same) same))),
      refl,
    )

pub settle_value-requires-clause-record : goal.settle_value-requires-clause-record
settle_value-requires-clause-record g c =
    let m = g.L.Revision.machine in
    let ends = g.L.Revision.ends in
    let open_ = c.open_number-desk.ensures in
    let v = c.open_number-desk.new.place.me.0 in
    let first = c.open_number-desk.result.0.value in
    let limit = open_.same.4 in
    let held = c.deref_mut-held.result.now in
    let was = subst (λ x. HasDesk m ends v x) (sym c.deref_mut-held.ensures.value) open_.hand in
    let ready = c.make_behind.new.desk in
    let roomy = hand_room m ends v held ready was c.make_behind.ensures.same in
    let k = c.args.of in
    let n = c.in-Some.number in
    let desk = record ready { plan = c.plan_behind.new.plan } in
    let same = same_plan ready ready c.plan_behind.new.plan refl in
    let hand = hand_same m ends v ready desk roomy same in
    let free : desk.state ≡ All =
    c.make_behind.ensures.same.state ∙ (ap (λ x. x.state) c.deref_mut-held.ensures.value ∙ (open_.same.0 ∙
    c.requires.free)) in
    let i = c.args.joinee in
    let b = c.args.lone in
    let mine : v.mine ≡ lone_list b i = open_.same.1 ∙ c.requires.mine in
    let event = c.requires.event in
    let l = event.0 in
    let owes : Owes m ends v.seat i k l = subst (λ x. Owes m ends x i k l) (sym open_.same.2) event.2 in
    let has = pass_named v.seat.passes i owes.ended.1 owes.ended.3 in
    let e = c.plan_behind.ensures in
    let plan : HasPlan desk (behind_deeds i k) (lone_of b i) None = (e.deeds, e.kept.0, e.kept.1) in
    let w = c.carry_fork-desk.new.place.me.0 in
    let tally = c.carry_fork-desk.result.1 in
    let hit : tally ≡ 2 * n = search rules in
    let entered = c.carry_fork-desk.ensures.entered hit in
    let is : c.deref_mut-last.result.now ≡ desk =
    c.deref_mut-last.ensures.value ∙ ap (λ x. x.value) c.carry_fork-desk.ensures.same in
    subst (λ (x : Desk _ _ _). b ≡ false → (record_at x.records.list.items i ≡ Some Out) × (i < length
    x.records.queue.waiters.items)
    × IsWithin (chain_at x.records.queue.waiters.items i) (length x.records.queue.links.items))
    (sym is) (behind_within m ends v desk hand free b i mine has k l owes event.1 c.args.child event.3 n w tally
    plan e.forks entered hit).0

pub settle_value-requires-clause-some : goal.settle_value-requires-clause-some
settle_value-requires-clause-some g c =
    let m = g.L.Revision.machine in
    let ends = g.L.Revision.ends in
    let open_ = c.open_number-desk.ensures in
    let v = c.open_number-desk.new.place.me.0 in
    let first = c.open_number-desk.result.0.value in
    let limit = open_.same.4 in
    let held = c.deref_mut-held.result.now in
    let was = subst (λ x. HasDesk m ends v x) (sym c.deref_mut-held.ensures.value) open_.hand in
    let ready = c.make_behind.new.desk in
    let roomy = hand_room m ends v held ready was c.make_behind.ensures.same in
    let k = c.args.of in
    let n = c.in-Some.number in
    let desk = record ready { plan = c.plan_behind.new.plan } in
    let same = same_plan ready ready c.plan_behind.new.plan refl in
    let hand = hand_same m ends v ready desk roomy same in
    let free : desk.state ≡ All =
    c.make_behind.ensures.same.state ∙ (ap (λ x. x.state) c.deref_mut-held.ensures.value ∙ (open_.same.0 ∙
    c.requires.free)) in
    let i = c.args.joinee in
    let b = c.args.lone in
    let mine : v.mine ≡ lone_list b i = open_.same.1 ∙ c.requires.mine in
    let event = c.requires.event in
    let l = event.0 in
    let owes : Owes m ends v.seat i k l = subst (λ x. Owes m ends x i k l) (sym open_.same.2) event.2 in
    let has = pass_named v.seat.passes i owes.ended.1 owes.ended.3 in
    let e = c.plan_behind.ensures in
    let plan : HasPlan desk (behind_deeds i k) (lone_of b i) None = (e.deeds, e.kept.0, e.kept.1) in
    let w = c.carry_fork-desk.new.place.me.0 in
    let tally = c.carry_fork-desk.result.1 in
    let hit : tally ≡ 2 * n = search rules in
    let entered = c.carry_fork-desk.ensures.entered hit in
    let is : c.deref_mut-last.result.now ≡ desk =
    c.deref_mut-last.ensures.value ∙ ap (λ x. x.value) c.carry_fork-desk.ensures.same in
    subst (λ (x : Desk _ _ _). 0 < x.records.queue.unfinished) (sym is) (behind_within m ends v desk hand free b i
    mine has k l owes event.1 c.args.child event.3 n w tally plan e.forks entered hit).1

pub settle_value-requires-clause-lent : goal.settle_value-requires-clause-lent
settle_value-requires-clause-lent g c =
    let m = g.L.Revision.machine in
    let ends = g.L.Revision.ends in
    let open_ = c.open_number-desk.ensures in
    let v = c.open_number-desk.new.place.me.0 in
    let first = c.open_number-desk.result.0.value in
    let limit = open_.same.4 in
    let held = c.deref_mut-held.result.now in
    let was = subst (λ x. HasDesk m ends v x) (sym c.deref_mut-held.ensures.value) open_.hand in
    let ready = c.make_behind.new.desk in
    let roomy = hand_room m ends v held ready was c.make_behind.ensures.same in
    let k = c.args.of in
    let n = c.in-Some.number in
    let desk = record ready { plan = c.plan_behind.new.plan } in
    let same = same_plan ready ready c.plan_behind.new.plan refl in
    let hand = hand_same m ends v ready desk roomy same in
    let free : desk.state ≡ All =
    c.make_behind.ensures.same.state ∙ (ap (λ x. x.state) c.deref_mut-held.ensures.value ∙ (open_.same.0 ∙
    c.requires.free)) in
    let i = c.args.joinee in
    let b = c.args.lone in
    let mine : v.mine ≡ lone_list b i = open_.same.1 ∙ c.requires.mine in
    let event = c.requires.event in
    let l = event.0 in
    let owes : Owes m ends v.seat i k l = subst (λ x. Owes m ends x i k l) (sym open_.same.2) event.2 in
    let has = pass_named v.seat.passes i owes.ended.1 owes.ended.3 in
    let e = c.plan_behind.ensures in
    let plan : HasPlan desk (behind_deeds i k) (lone_of b i) None = (e.deeds, e.kept.0, e.kept.1) in
    let w = c.carry_fork-desk.new.place.me.0 in
    let tally = c.carry_fork-desk.result.1 in
    let hit : tally ≡ 2 * n = search rules in
    let entered = c.carry_fork-desk.ensures.entered hit in
    let is : c.deref_mut-last.result.now ≡ desk =
    c.deref_mut-last.ensures.value ∙ ap (λ x. x.value) c.carry_fork-desk.ensures.same in
    subst (λ (x : Desk _ _ _). b ≡ true → 0 < x.lent) (sym is) (behind_within m ends v desk hand free b i mine has k
    l owes event.1 c.args.child event.3 n w tally plan e.forks entered hit).2

pub bear-requires-clause-none : goal.bear-requires-clause-none
bear-requires-clause-none g c =
    let m = g.L.Revision.machine in
    let ends = g.L.Revision.ends in
    let open_ = c.open_number-desk.ensures in
    let v = c.open_number-desk.new.place.me.0 in
    let first = c.open_number-desk.result.0.value in
    let limit = open_.same.4 in
    let held = c.deref_mut-held.result.now in
    let was = subst (λ x. HasDesk m ends v x) (sym c.deref_mut-held.ensures.value) open_.hand in
    let ready = c.make_behind.new.desk in
    let roomy = hand_room m ends v held ready was c.make_behind.ensures.same in
    let k = c.args.of in
    let n = c.in-Some.number in
    let desk = record ready { plan = c.plan_behind.new.plan } in
    let same = same_plan ready ready c.plan_behind.new.plan refl in
    let hand = hand_same m ends v ready desk roomy same in
    let free : desk.state ≡ All =
    c.make_behind.ensures.same.state ∙ (ap (λ x. x.state) c.deref_mut-held.ensures.value ∙ (open_.same.0 ∙
    c.requires.free)) in
    let i = c.args.joinee in
    let b = c.args.lone in
    let mine : v.mine ≡ lone_list b i = open_.same.1 ∙ c.requires.mine in
    let event = c.requires.event in
    let l = event.0 in
    let owes : Owes m ends v.seat i k l = subst (λ x. Owes m ends x i k l) (sym open_.same.2) event.2 in
    let has = pass_named v.seat.passes i owes.ended.1 owes.ended.3 in
    let e = c.plan_behind.ensures in
    let plan : HasPlan desk (behind_deeds i k) (lone_of b i) None = (e.deeds, e.kept.0, e.kept.1) in
    let w = c.carry_fork-desk.new.place.me.0 in
    let tally = c.carry_fork-desk.result.1 in
    let hit : tally ≡ 2 * n = search rules in
    let entered = c.carry_fork-desk.ensures.entered hit in
    let is : c.deref_mut-last.result.now ≡ desk =
    c.deref_mut-last.ensures.value ∙ ap (λ x. x.value) c.carry_fork-desk.ensures.same in
    let one = c.settle_value.new.desk in
    let done : IsSettled b i desk one = subst (λ x. IsSettled b i x one) is c.settle_value.ensures.settled in
    let ready_yes : c.make_behind.result ≡ true = search rules in
    (behind_child m ends v desk hand free b i mine has k l owes event.1 c.args.child event.3 n w tally plan e.forks
    entered hit one done).0

pub bear-requires-clause-within : goal.bear-requires-clause-within
bear-requires-clause-within g c =
    let m = g.L.Revision.machine in
    let ends = g.L.Revision.ends in
    let open_ = c.open_number-desk.ensures in
    let v = c.open_number-desk.new.place.me.0 in
    let first = c.open_number-desk.result.0.value in
    let limit = open_.same.4 in
    let held = c.deref_mut-held.result.now in
    let was = subst (λ x. HasDesk m ends v x) (sym c.deref_mut-held.ensures.value) open_.hand in
    let ready = c.make_behind.new.desk in
    let roomy = hand_room m ends v held ready was c.make_behind.ensures.same in
    let k = c.args.of in
    let n = c.in-Some.number in
    let desk = record ready { plan = c.plan_behind.new.plan } in
    let same = same_plan ready ready c.plan_behind.new.plan refl in
    let hand = hand_same m ends v ready desk roomy same in
    let free : desk.state ≡ All =
    c.make_behind.ensures.same.state ∙ (ap (λ x. x.state) c.deref_mut-held.ensures.value ∙ (open_.same.0 ∙
    c.requires.free)) in
    let i = c.args.joinee in
    let b = c.args.lone in
    let mine : v.mine ≡ lone_list b i = open_.same.1 ∙ c.requires.mine in
    let event = c.requires.event in
    let l = event.0 in
    let owes : Owes m ends v.seat i k l = subst (λ x. Owes m ends x i k l) (sym open_.same.2) event.2 in
    let has = pass_named v.seat.passes i owes.ended.1 owes.ended.3 in
    let e = c.plan_behind.ensures in
    let plan : HasPlan desk (behind_deeds i k) (lone_of b i) None = (e.deeds, e.kept.0, e.kept.1) in
    let w = c.carry_fork-desk.new.place.me.0 in
    let tally = c.carry_fork-desk.result.1 in
    let hit : tally ≡ 2 * n = search rules in
    let entered = c.carry_fork-desk.ensures.entered hit in
    let is : c.deref_mut-last.result.now ≡ desk =
    c.deref_mut-last.ensures.value ∙ ap (λ x. x.value) c.carry_fork-desk.ensures.same in
    let one = c.settle_value.new.desk in
    let done : IsSettled b i desk one = subst (λ x. IsSettled b i x one) is c.settle_value.ensures.settled in
    let ready_yes : c.make_behind.result ≡ true = search rules in
    let reach = c.make_behind.ensures.reach ready_yes in
    let long = settled_length b i desk one done in
    let links = (behind_links m ends v desk hand free b i mine has k l owes event.1 c.args.child event.3 n w tally
    plan e.forks entered hit one done) in
    (omega arith, omega arith)

pub bear-requires-clause-few : goal.bear-requires-clause-few
bear-requires-clause-few g c =
    let m = g.L.Revision.machine in
    let ends = g.L.Revision.ends in
    let open_ = c.open_number-desk.ensures in
    let v = c.open_number-desk.new.place.me.0 in
    let first = c.open_number-desk.result.0.value in
    let limit = open_.same.4 in
    let held = c.deref_mut-held.result.now in
    let was = subst (λ x. HasDesk m ends v x) (sym c.deref_mut-held.ensures.value) open_.hand in
    let ready = c.make_behind.new.desk in
    let roomy = hand_room m ends v held ready was c.make_behind.ensures.same in
    let k = c.args.of in
    let n = c.in-Some.number in
    let desk = record ready { plan = c.plan_behind.new.plan } in
    let same = same_plan ready ready c.plan_behind.new.plan refl in
    let hand = hand_same m ends v ready desk roomy same in
    let free : desk.state ≡ All =
    c.make_behind.ensures.same.state ∙ (ap (λ x. x.state) c.deref_mut-held.ensures.value ∙ (open_.same.0 ∙
    c.requires.free)) in
    let i = c.args.joinee in
    let b = c.args.lone in
    let mine : v.mine ≡ lone_list b i = open_.same.1 ∙ c.requires.mine in
    let event = c.requires.event in
    let l = event.0 in
    let owes : Owes m ends v.seat i k l = subst (λ x. Owes m ends x i k l) (sym open_.same.2) event.2 in
    let has = pass_named v.seat.passes i owes.ended.1 owes.ended.3 in
    let e = c.plan_behind.ensures in
    let plan : HasPlan desk (behind_deeds i k) (lone_of b i) None = (e.deeds, e.kept.0, e.kept.1) in
    let w = c.carry_fork-desk.new.place.me.0 in
    let tally = c.carry_fork-desk.result.1 in
    let hit : tally ≡ 2 * n = search rules in
    let entered = c.carry_fork-desk.ensures.entered hit in
    let is : c.deref_mut-last.result.now ≡ desk =
    c.deref_mut-last.ensures.value ∙ ap (λ x. x.value) c.carry_fork-desk.ensures.same in
    let one = c.settle_value.new.desk in
    let done : IsSettled b i desk one = subst (λ x. IsSettled b i x one) is c.settle_value.ensures.settled in
    let ready_yes : c.make_behind.result ≡ true = search rules in
    let few = (behind_child m ends v desk hand free b i mine has k l owes event.1 c.args.child event.3 n w tally
    plan e.forks entered hit one done).1 in
    let fits : n < 4294967296 = search rules in
    omega arith

pub put_home-requires-clause-hand : goal.put_home-requires-clause-hand
put_home-requires-clause-hand g c =
    let m = g.L.Revision.machine in
    let ends = g.L.Revision.ends in
    let open_ = c.open_number-desk.ensures in
    let v = c.open_number-desk.new.place.me.0 in
    let first = c.open_number-desk.result.0.value in
    let limit = open_.same.4 in
    let held = c.deref_mut-held.result.now in
    let was = subst (λ x. HasDesk m ends v x) (sym c.deref_mut-held.ensures.value) open_.hand in
    let ready = c.make_behind.new.desk in
    let roomy = hand_room m ends v held ready was c.make_behind.ensures.same in
    let k = c.args.of in
    let n = c.in-Some.number in
    let desk = record ready { plan = c.plan_behind.new.plan } in
    let same = same_plan ready ready c.plan_behind.new.plan refl in
    let hand = hand_same m ends v ready desk roomy same in
    let free : desk.state ≡ All =
    c.make_behind.ensures.same.state ∙ (ap (λ x. x.state) c.deref_mut-held.ensures.value ∙ (open_.same.0 ∙
    c.requires.free)) in
    let i = c.args.joinee in
    let b = c.args.lone in
    let mine : v.mine ≡ lone_list b i = open_.same.1 ∙ c.requires.mine in
    let event = c.requires.event in
    let l = event.0 in
    let owes : Owes m ends v.seat i k l = subst (λ x. Owes m ends x i k l) (sym open_.same.2) event.2 in
    let has = pass_named v.seat.passes i owes.ended.1 owes.ended.3 in
    let e = c.plan_behind.ensures in
    let plan : HasPlan desk (behind_deeds i k) (lone_of b i) None = (e.deeds, e.kept.0, e.kept.1) in
    let w = c.carry_fork-desk.new.place.me.0 in
    let tally = c.carry_fork-desk.result.1 in
    let hit : tally ≡ 2 * n = search rules in
    let entered = c.carry_fork-desk.ensures.entered hit in
    let is : c.deref_mut-last.result.now ≡ desk =
    c.deref_mut-last.ensures.value ∙ ap (λ x. x.value) c.carry_fork-desk.ensures.same in
    let one = c.settle_value.new.desk in
    let done : IsSettled b i desk one = subst (λ x. IsSettled b i x one) is c.settle_value.ensures.settled in
    let ready_yes : c.make_behind.result ≡ true = search rules in
    let fit = behind_fit m ends v desk hand free b i mine has k l owes event.1 c.args.child event.3 n w tally plan
    e.forks entered hit in
    let s = c.settle_value.ensures.same in
    behind_hand m ends v desk hand free b i mine has k l owes event.1 c.args.child event.3 n w tally plan e.forks
    entered hit one (record one { journal = c.note_keep.new.journal; records = c.bear.new.self }) done
    (c.make_behind.ensures.reach ready_yes) (c.requires.group ∙ sym (ap (λ y. y.group) open_.same.2))
    c.bear.ensures.now c.bear.ensures.queue
    (c.note_keep.ensures.entries
    ∙ ap (λ (z : _ × ℕ). pairs z.0 ++ stamped z.1 (entered_by (behind_deeds i k)))
    (λ j. ((ap (λ x. x.entries.items) s.0 ∙ ap (λ x. x.journal.entries.items) is) j, sym fit j)))
    (s.1 ∙ ap (λ z. z.state) is)
    (c.note_keep.ensures.limit ∙ (ap (λ x. x.limit) s.0 ∙ ap (λ z. z.journal.limit) is)) refl
    (s.2 ∙ ap (λ z. z.strays) is)

pub returns-clause-told : goal.returns-clause-told
returns-clause-told g c =
    let m = g.L.Revision.machine in
    let ends = g.L.Revision.ends in
    let open_ = c.open_number-desk.ensures in
    let v = c.open_number-desk.new.place.me.0 in
    let first = c.open_number-desk.result.0.value in
    let limit = open_.same.4 in
    let held = c.deref_mut-held.result.now in
    let was = subst (λ x. HasDesk m ends v x) (sym c.deref_mut-held.ensures.value) open_.hand in
    let ready = c.make_behind.new.desk in
    let roomy = hand_room m ends v held ready was c.make_behind.ensures.same in
    let k = c.args.of in
    let n = c.in-Some.number in
    let desk = record ready { plan = c.plan_behind.new.plan } in
    let same = same_plan ready ready c.plan_behind.new.plan refl in
    let hand = hand_same m ends v ready desk roomy same in
    let free : desk.state ≡ All =
    c.make_behind.ensures.same.state ∙ (ap (λ x. x.state) c.deref_mut-held.ensures.value ∙ (open_.same.0 ∙
    c.requires.free)) in
    let i = c.args.joinee in
    let b = c.args.lone in
    let mine : v.mine ≡ lone_list b i = open_.same.1 ∙ c.requires.mine in
    let event = c.requires.event in
    let l = event.0 in
    let owes : Owes m ends v.seat i k l = subst (λ x. Owes m ends x i k l) (sym open_.same.2) event.2 in
    let has = pass_named v.seat.passes i owes.ended.1 owes.ended.3 in
    let e = c.plan_behind.ensures in
    let plan : HasPlan desk (behind_deeds i k) (lone_of b i) None = (e.deeds, e.kept.0, e.kept.1) in
    let w = c.carry_fork-desk.new.place.me.0 in
    let tally = c.carry_fork-desk.result.1 in
    let hit : tally ≡ 2 * n = search rules in
    let entered = c.carry_fork-desk.ensures.entered hit in
    let is : c.deref_mut-last.result.now ≡ desk =
    c.deref_mut-last.ensures.value ∙ ap (λ x. x.value) c.carry_fork-desk.ensures.same in
    let at = c.put_home.ensures.rests in
    let x = c.put_home.new.place.me.0 in
    let x_is = ap (λ z. z.0) at in
    let r = behind_rests m ends v desk hand free b i mine has k l owes event.1 c.args.child event.3 n w tally plan
    e.forks entered hit x x_is in
    let r3 = r.3 in (
      (
        ap (λ z. z.0.seat.has) at,
        ap (λ z. z.1) at,
        r.0 ∙ ap (λ y. y.parts) open_.same.2,
        r.1 ∙ ap (λ y. x.seat.log ∷ y.turns) open_.same.2,
        r.2 ∙ open_.same.3,
        omega arith,
      ),
      r.4 ∙ behind_mine m ends v desk hand free b i mine has k l owes event.1 c.args.child event.3 n,
      (λ v0 h l0 owes0. behind_says m ends v desk hand free b i mine has k l owes event.1 c.args.child event.3 n w
          tally plan e.forks entered hit v0 x
          (in_same m ends v0 v ready desk
          (in_room m ends v0 v held ready
          (subst (λ x. IsIn m ends v0 v x) (sym c.deref_mut-held.ensures.value) (open_.told v0 h))
          c.make_behind.ensures.same) same)
          x_is l0 owes0),
    )
