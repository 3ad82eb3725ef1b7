-- Answers of TurnHub::try_fork: the plan is carried out where the tally is as it was, and the child is then ready.
use Rattle.std.proofs.Common.{rules, ◌≡◌, ◌≢◌, ◌<◌, ◌*◌, ◌+◌, ◌++◌, ℕ, true, ◌∷◌, None, refl, sym, ap, ◌∙◌, subst, arith}
use Rattle.hub_core.specs.declared.status.Status.TheVariants.{Ready}
use Rattle.hub_core.specs.declared.state.HubState.TheVariants.{All}
use Rattle.hub_core.specs.Chains.{Adds, IsAsLong}
use Rattle.hub_core.specs.Recorded.{put_record}
use Rattle.hub_core.specs.Rounds.{stamped}
use Rattle.hub_core.specs.Seats.{HasFork}
use Rattle.hub_core.specs.Tally.{record_at, pairs, entered as entered_by, HasDesk}
use Rattle.turn_hub.specs.Turns.{IsIn}
use Rattle.turn_hub.specs.Plans.{HasPlan, fork_deeds}
use Rattle.turn_hub.proofs.Values.{same_plan, hand_same, in_same}
use Rattle.turn_hub.proofs.Widths.{hand_room, in_room}
use Rattle.turn_hub.proofs.Births.{can_bear, birth_rests, birth_says, birth_fit, birth_child, birth_hand}
use Rattle.turn_hub.proofs.hub.TurnHub.try_fork.Goals as goal

pub returns-in_default-clause-told : goal.returns-in_default-clause-told
returns-in_default-clause-told g c =
    let m = g.L.Revision.machine in
    let ends = g.L.Revision.ends in
    let open_ = c.open_number-desk.ensures in
    let v = c.open_number-desk.new.place.me.0 in
    let first = c.open_number-desk.result.0.value in
    let limit = open_.same.4 in
    let r = c.put_home_halted.ensures.rests in
    let more = r.5 in (
      (
        r.0,
        r.1,
        r.2 ∙ ap (λ x. x.parts) open_.same.2,
        r.3 ∙ ap (λ x. c.put_home_halted.new.place.me.0.seat.log ∷ x.turns) open_.same.2,
        r.4 ∙ open_.same.3,
        omega arith,
      ),
      c.put_home_halted.ensures.mine ∙ open_.same.1,
      (λ v0 h. c.put_home_halted.ensures.halted v0 (open_.told v0 h)),
      refl,
    )

pub put_home_halted-requires-then-not-make_birth-clause-hand :
    goal.put_home_halted-requires-then-not-make_birth-clause-hand
put_home_halted-requires-then-not-make_birth-clause-hand g c =
    let m = g.L.Revision.machine in
    let ends = g.L.Revision.ends in
    let open_ = c.open_number-desk.ensures in
    let v = c.open_number-desk.new.place.me.0 in
    let first = c.open_number-desk.result.0.value in
    let limit = open_.same.4 in
    let held = c.deref_mut-held.result.now in
    let was = subst (λ x. HasDesk m ends v x) (sym c.deref_mut-held.ensures.value) open_.hand in
    let ready = c.make_birth.new.desk in
    let roomy = hand_room m ends v held ready was c.make_birth.ensures.same in
    roomy

pub returns-then-not-make_birth-clause-told : goal.returns-then-not-make_birth-clause-told
returns-then-not-make_birth-clause-told g c =
    let m = g.L.Revision.machine in
    let ends = g.L.Revision.ends in
    let open_ = c.open_number-desk.ensures in
    let v = c.open_number-desk.new.place.me.0 in
    let first = c.open_number-desk.result.0.value in
    let limit = open_.same.4 in
    let held = c.deref_mut-held.result.now in
    let was = subst (λ x. HasDesk m ends v x) (sym c.deref_mut-held.ensures.value) open_.hand in
    let ready = c.make_birth.new.desk in
    let roomy = hand_room m ends v held ready was c.make_birth.ensures.same in
    let halted = c.put_home_halted-then-not-make_birth in
    let r = halted.ensures.rests in
    let more = r.5 in (
      (
        r.0,
        r.1,
        r.2 ∙ ap (λ x. x.parts) open_.same.2,
        r.3 ∙ ap (λ x. halted.new.place.me.0.seat.log ∷ x.turns) open_.same.2,
        r.4 ∙ open_.same.3,
        omega arith,
      ),
      halted.ensures.mine ∙ open_.same.1,
      (λ v0 h. halted.ensures.halted v0
          (in_room m ends v0 v held ready
          (subst (λ x. IsIn m ends v0 v x) (sym c.deref_mut-held.ensures.value) (open_.told v0 h))
          c.make_birth.ensures.same)),
      refl,
    )

pub carry_fork-desk-requires-clause-can : goal.carry_fork-desk-requires-clause-can
carry_fork-desk-requires-clause-can g c =
    let m = g.L.Revision.machine in
    let ends = g.L.Revision.ends in
    let open_ = c.open_number-desk.ensures in
    let v = c.open_number-desk.new.place.me.0 in
    let first = c.open_number-desk.result.0.value in
    let limit = open_.same.4 in
    let held = c.deref_mut-held.result.now in
    let was = subst (λ x. HasDesk m ends v x) (sym c.deref_mut-held.ensures.value) open_.hand in
    let ready = c.make_birth.new.desk in
    let roomy = hand_room m ends v held ready was c.make_birth.ensures.same in
    let k = c.args.of in
    let n = c.in-Some.number in
    let desk = record ready { plan = c.plan_fork.new.plan } in
    let same = same_plan ready ready c.plan_fork.new.plan refl in
    let hand = hand_same m ends v ready desk roomy same in
    let free : desk.state ≡ All =
    c.make_birth.ensures.same.state ∙ (ap (λ x. x.state) c.deref_mut-held.ensures.value ∙ (open_.same.0 ∙
    c.requires.free)) in
    let event = subst (λ x. HasFork m ends x k c.args.child) (sym open_.same.2) c.requires.event in
    let e = c.plan_fork.ensures in
    let plan : HasPlan desk (fork_deeds k) None None = (e.deeds, e.kept.0, e.kept.1) in
    can_bear m ends v desk hand free k c.args.child event n plan e.forks

pub returns-then-tally-number-clause-told : goal.returns-then-tally-number-clause-told
returns-then-tally-number-clause-told g c =
    let m = g.L.Revision.machine in
    let ends = g.L.Revision.ends in
    let open_ = c.open_number-desk.ensures in
    let v = c.open_number-desk.new.place.me.0 in
    let first = c.open_number-desk.result.0.value in
    let limit = open_.same.4 in
    let held = c.deref_mut-held.result.now in
    let was = subst (λ x. HasDesk m ends v x) (sym c.deref_mut-held.ensures.value) open_.hand in
    let ready = c.make_birth.new.desk in
    let roomy = hand_room m ends v held ready was c.make_birth.ensures.same in
    let k = c.args.of in
    let n = c.in-Some.number in
    let desk = record ready { plan = c.plan_fork.new.plan } in
    let same = same_plan ready ready c.plan_fork.new.plan refl in
    let hand = hand_same m ends v ready desk roomy same in
    let free : desk.state ≡ All =
    c.make_birth.ensures.same.state ∙ (ap (λ x. x.state) c.deref_mut-held.ensures.value ∙ (open_.same.0 ∙
    c.requires.free)) in
    let event = subst (λ x. HasFork m ends x k c.args.child) (sym open_.same.2) c.requires.event in
    let e = c.plan_fork.ensures in
    let plan : HasPlan desk (fork_deeds k) None None = (e.deeds, e.kept.0, e.kept.1) in
    let w = c.carry_fork-desk.new.place.me.0 in
    let tally = c.carry_fork-desk.result.1 in
    let other : tally ≢ 2 * n = search rules in
    let view = c.carry_fork-desk.ensures.missed other in
    let is = ap (λ x. x.value) c.carry_fork-desk.ensures.same in (
      c.carry_fork-desk.ensures.own.1,
      subst (λ x. HasDesk m ends w x) (sym is) (subst (λ x. HasDesk m ends x desk) (sym view) hand),
      ap (λ x. x.state) is ∙ free,
      ap (λ x. x.mine) view ∙ open_.same.1,
      ap (λ x. x.seat) view ∙ open_.same.2,
      ap (λ x. x.rounds) view ∙ open_.same.3,
      (let a = ap (λ x. x.limit) view in omega arith),
      (λ v0 h. subst (λ x. IsIn m ends v0 w x) (sym is)
          (subst (λ x. IsIn m ends v0 x desk) (sym view)
          (in_same m ends v0 v ready desk
          (in_room m ends v0 v held ready
          (subst (λ x. IsIn m ends v0 v x) (sym c.deref_mut-held.ensures.value) (open_.told v0 h))
          c.make_birth.ensures.same) same))),
      refl,
    )

pub bear-requires-clause-none : goal.bear-requires-clause-none
bear-requires-clause-none g c =
    let m = g.L.Revision.machine in
    let ends = g.L.Revision.ends in
    let open_ = c.open_number-desk.ensures in
    let v = c.open_number-desk.new.place.me.0 in
    let first = c.open_number-desk.result.0.value in
    let limit = open_.same.4 in
    let held = c.deref_mut-held.result.now in
    let was = subst (λ x. HasDesk m ends v x) (sym c.deref_mut-held.ensures.value) open_.hand in
    let ready = c.make_birth.new.desk in
    let roomy = hand_room m ends v held ready was c.make_birth.ensures.same in
    let k = c.args.of in
    let n = c.in-Some.number in
    let desk = record ready { plan = c.plan_fork.new.plan } in
    let same = same_plan ready ready c.plan_fork.new.plan refl in
    let hand = hand_same m ends v ready desk roomy same in
    let free : desk.state ≡ All =
    c.make_birth.ensures.same.state ∙ (ap (λ x. x.state) c.deref_mut-held.ensures.value ∙ (open_.same.0 ∙
    c.requires.free)) in
    let event = subst (λ x. HasFork m ends x k c.args.child) (sym open_.same.2) c.requires.event in
    let e = c.plan_fork.ensures in
    let plan : HasPlan desk (fork_deeds k) None None = (e.deeds, e.kept.0, e.kept.1) in
    let w = c.carry_fork-desk.new.place.me.0 in
    let tally = c.carry_fork-desk.result.1 in
    let hit : tally ≡ 2 * n = search rules in
    let entered = c.carry_fork-desk.ensures.entered hit in
    let is : c.deref_mut-last.result.now ≡ desk =
    c.deref_mut-last.ensures.value ∙ ap (λ x. x.value) c.carry_fork-desk.ensures.same in
    ap (λ z. record_at z.records.list.items n) is ∙ (birth_child m ends v desk hand free k c.args.child event n w
    tally plan e.forks entered hit).0

pub bear-requires-clause-few : goal.bear-requires-clause-few
bear-requires-clause-few g c =
    let m = g.L.Revision.machine in
    let ends = g.L.Revision.ends in
    let open_ = c.open_number-desk.ensures in
    let v = c.open_number-desk.new.place.me.0 in
    let first = c.open_number-desk.result.0.value in
    let limit = open_.same.4 in
    let held = c.deref_mut-held.result.now in
    let was = subst (λ x. HasDesk m ends v x) (sym c.deref_mut-held.ensures.value) open_.hand in
    let ready = c.make_birth.new.desk in
    let roomy = hand_room m ends v held ready was c.make_birth.ensures.same in
    let k = c.args.of in
    let n = c.in-Some.number in
    let desk = record ready { plan = c.plan_fork.new.plan } in
    let same = same_plan ready ready c.plan_fork.new.plan refl in
    let hand = hand_same m ends v ready desk roomy same in
    let free : desk.state ≡ All =
    c.make_birth.ensures.same.state ∙ (ap (λ x. x.state) c.deref_mut-held.ensures.value ∙ (open_.same.0 ∙
    c.requires.free)) in
    let event = subst (λ x. HasFork m ends x k c.args.child) (sym open_.same.2) c.requires.event in
    let e = c.plan_fork.ensures in
    let plan : HasPlan desk (fork_deeds k) None None = (e.deeds, e.kept.0, e.kept.1) in
    let w = c.carry_fork-desk.new.place.me.0 in
    let tally = c.carry_fork-desk.result.1 in
    let hit : tally ≡ 2 * n = search rules in
    let entered = c.carry_fork-desk.ensures.entered hit in
    let is : c.deref_mut-last.result.now ≡ desk =
    c.deref_mut-last.ensures.value ∙ ap (λ x. x.value) c.carry_fork-desk.ensures.same in
    let few = (birth_child m ends v desk hand free k c.args.child event n w tally plan e.forks entered hit).1 in
    let same = ap (λ z. z.records.queue.unfinished) is in
    let fits : n < 4294967296 = search rules in
    omega arith

pub put_home-requires-clause-hand : goal.put_home-requires-clause-hand
put_home-requires-clause-hand g c =
    let m = g.L.Revision.machine in
    let ends = g.L.Revision.ends in
    let open_ = c.open_number-desk.ensures in
    let v = c.open_number-desk.new.place.me.0 in
    let first = c.open_number-desk.result.0.value in
    let limit = open_.same.4 in
    let held = c.deref_mut-held.result.now in
    let was = subst (λ x. HasDesk m ends v x) (sym c.deref_mut-held.ensures.value) open_.hand in
    let ready = c.make_birth.new.desk in
    let roomy = hand_room m ends v held ready was c.make_birth.ensures.same in
    let k = c.args.of in
    let n = c.in-Some.number in
    let desk = record ready { plan = c.plan_fork.new.plan } in
    let same = same_plan ready ready c.plan_fork.new.plan refl in
    let hand = hand_same m ends v ready desk roomy same in
    let free : desk.state ≡ All =
    c.make_birth.ensures.same.state ∙ (ap (λ x. x.state) c.deref_mut-held.ensures.value ∙ (open_.same.0 ∙
    c.requires.free)) in
    let event = subst (λ x. HasFork m ends x k c.args.child) (sym open_.same.2) c.requires.event in
    let e = c.plan_fork.ensures in
    let plan : HasPlan desk (fork_deeds k) None None = (e.deeds, e.kept.0, e.kept.1) in
    let w = c.carry_fork-desk.new.place.me.0 in
    let tally = c.carry_fork-desk.result.1 in
    let hit : tally ≡ 2 * n = search rules in
    let entered = c.carry_fork-desk.ensures.entered hit in
    let is : c.deref_mut-last.result.now ≡ desk =
    c.deref_mut-last.ensures.value ∙ ap (λ x. x.value) c.carry_fork-desk.ensures.same in
    let last = c.deref_mut-last.result.now in
    let ready_yes : c.make_birth.result ≡ true = search rules in
    let fit = birth_fit m ends v desk hand free k c.args.child event n w tally plan e.forks entered hit in
    birth_hand m ends v desk hand free k c.args.child event n w tally plan e.forks entered hit (record last {
      journal = c.enter.new.self;
      records = c.bear.new.self;
    })
    (c.make_birth.ensures.reach ready_yes) (c.requires.group ∙ sym (ap (λ y. y.group) open_.same.2))
    (c.bear.ensures.now ∙ ap (λ z. put_record z.records.list.items n (Ready c.args.child)) is)
    (subst (λ z.
    Adds z.records.queue c.bear.new.self.queue n
    × (c.bear.new.self.queue.unfinished ≡ z.records.queue.unfinished + 1)
    × IsAsLong z.records.queue c.bear.new.self.queue) is c.bear.ensures.queue)
    (c.enter.ensures.entry
    ∙ ap (λ (z : _ × ℕ). pairs z.0 ++ stamped z.1 (entered_by (fork_deeds k)))
    (λ j. (ap (λ x. x.journal.entries.items) is j, sym fit j)))
    (ap (λ z. z.state) is) (c.enter.ensures.limit ∙ ap (λ z. z.journal.limit) is) (ap (λ z. z.lent) is)
    (ap (λ z. z.strays) is)

pub returns-clause-told : goal.returns-clause-told
returns-clause-told g c =
    let m = g.L.Revision.machine in
    let ends = g.L.Revision.ends in
    let open_ = c.open_number-desk.ensures in
    let v = c.open_number-desk.new.place.me.0 in
    let first = c.open_number-desk.result.0.value in
    let limit = open_.same.4 in
    let held = c.deref_mut-held.result.now in
    let was = subst (λ x. HasDesk m ends v x) (sym c.deref_mut-held.ensures.value) open_.hand in
    let ready = c.make_birth.new.desk in
    let roomy = hand_room m ends v held ready was c.make_birth.ensures.same in
    let k = c.args.of in
    let n = c.in-Some.number in
    let desk = record ready { plan = c.plan_fork.new.plan } in
    let same = same_plan ready ready c.plan_fork.new.plan refl in
    let hand = hand_same m ends v ready desk roomy same in
    let free : desk.state ≡ All =
    c.make_birth.ensures.same.state ∙ (ap (λ x. x.state) c.deref_mut-held.ensures.value ∙ (open_.same.0 ∙
    c.requires.free)) in
    let event = subst (λ x. HasFork m ends x k c.args.child) (sym open_.same.2) c.requires.event in
    let e = c.plan_fork.ensures in
    let plan : HasPlan desk (fork_deeds k) None None = (e.deeds, e.kept.0, e.kept.1) in
    let w = c.carry_fork-desk.new.place.me.0 in
    let tally = c.carry_fork-desk.result.1 in
    let hit : tally ≡ 2 * n = search rules in
    let entered = c.carry_fork-desk.ensures.entered hit in
    let is : c.deref_mut-last.result.now ≡ desk =
    c.deref_mut-last.ensures.value ∙ ap (λ x. x.value) c.carry_fork-desk.ensures.same in
    let at = c.put_home.ensures.rests in
    let x = c.put_home.new.place.me.0 in
    let x_is = ap (λ z. z.0) at in
    let r = birth_rests m ends v desk hand free k c.args.child event n w tally plan e.forks entered hit x x_is in
    let r3 = r.3 in (
      (
        ap (λ z. z.0.seat.has) at,
        ap (λ z. z.1) at,
        r.0 ∙ ap (λ y. y.parts) open_.same.2,
        r.1 ∙ ap (λ y. x.seat.log ∷ y.turns) open_.same.2,
        r.2 ∙ open_.same.3,
        omega arith,
      ),
      r.4 ∙ open_.same.1,
      (λ v0 h event0. birth_says m ends v desk hand free k c.args.child event n w tally plan e.forks entered hit v0 x
          (in_same m ends v0 v ready desk
          (in_room m ends v0 v held ready
          (subst (λ x. IsIn m ends v0 v x) (sym c.deref_mut-held.ensures.value) (open_.told v0 h))
          c.make_birth.ensures.same) same)
          x_is event0),
    )
