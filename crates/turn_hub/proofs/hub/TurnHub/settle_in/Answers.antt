-- Answers of TurnHub::settle_in: the joinee has a record or was kept, and both entries are made at one moment.
use Rattle.std.proofs.Common.{◌≡◌, ◌<◌, ◌++◌, ℕ, true, false, None, Some, length, refl, sym, ap, ◌∙◌, subst, arith}
use Rattle.hub_core.specs.declared.status.Status.TheVariants.{Out}
use Rattle.hub_core.specs.declared.state.HubState.TheVariants.{All}
use Rattle.hub_core.specs.declared.desk.Desk.{Desk}
use Rattle.hub_core.specs.Chains.{IsWithin, chain_at}
use Rattle.hub_core.specs.Rounds.{stamped}
use Rattle.hub_core.specs.Tally.{record_at, pairs, entered as entered_by}
use Rattle.hub_core.proofs.Passes.{pass_named}
use Rattle.turn_hub.specs.Plans.{HasPlan, IsSettled, settle_deeds, lone_of}
use Rattle.turn_hub.proofs.Values.{same_room, hand_same, in_same}
use Rattle.turn_hub.proofs.Finding.{owes_on}
use Rattle.turn_hub.proofs.Joins.{can_join, join_rests, join_says, join_count, join_within, join_hand}
use Rattle.turn_hub.proofs.hub.TurnHub.settle_in.Goals as goal

pub carry_out-desk-requires-clause-can : goal.carry_out-desk-requires-clause-can
carry_out-desk-requires-clause-can g c =
    let m = g.L.Revision.machine in
    let ends = g.L.Revision.ends in
    let v = c.args.place.now.me.0 in
    let old = c.args.desk.value in
    let held = c.deref_mut-held.result.now in
    let i = c.args.joinee in
    let k = c.args.of in
    let b = c.args.lone in
    let desk = record held { journal = c.reserve.new.self; plan = c.plan_settle.new.plan } in
    let room = c.reserve.ensures.same in
    let same =
    same_room old held c.reserve.new.self c.plan_settle.new.plan c.deref_mut-held.ensures.value room.0 room.1 in
    let told = c.requires.told in
    let hand = hand_same m ends v old desk told.2.hand same in
    let free : desk.state ≡ All = same.state ∙ c.requires.free in
    let owes = owes_on m ends told.0.seat v.seat i k told.1 told.2.same.1 told.2.same.3 told.3 in
    let has = pass_named v.seat.passes i owes.ended.1 owes.ended.3 in
    let plan : HasPlan desk (settle_deeds i k) (lone_of b i) None = c.plan_settle.ensures in
    can_join m ends v desk hand free b i c.requires.mine has k told.1 owes plan

pub settle_value-requires-clause-record : goal.settle_value-requires-clause-record
settle_value-requires-clause-record g c =
    let m = g.L.Revision.machine in
    let ends = g.L.Revision.ends in
    let v = c.args.place.now.me.0 in
    let old = c.args.desk.value in
    let held = c.deref_mut-held.result.now in
    let i = c.args.joinee in
    let k = c.args.of in
    let b = c.args.lone in
    let desk = record held { journal = c.reserve.new.self; plan = c.plan_settle.new.plan } in
    let room = c.reserve.ensures.same in
    let same =
    same_room old held c.reserve.new.self c.plan_settle.new.plan c.deref_mut-held.ensures.value room.0 room.1 in
    let told = c.requires.told in
    let hand = hand_same m ends v old desk told.2.hand same in
    let free : desk.state ≡ All = same.state ∙ c.requires.free in
    let owes = owes_on m ends told.0.seat v.seat i k told.1 told.2.same.1 told.2.same.3 told.3 in
    let has = pass_named v.seat.passes i owes.ended.1 owes.ended.3 in
    let plan : HasPlan desk (settle_deeds i k) (lone_of b i) None = c.plan_settle.ensures in
    let w = c.carry_out-desk.new.place.me.0 in
    let tally = c.carry_out-desk.result.1 in
    let entered = c.carry_out-desk.ensures.entered in
    let is : c.deref_mut-last.result.now ≡ desk =
    c.deref_mut-last.ensures.value ∙ ap (λ x. x.value) c.carry_out-desk.ensures.same in
    subst (λ (x : Desk _ _ _). b ≡ false → (record_at x.records.list.items i ≡ Some Out) × (i < length
    x.records.queue.waiters.items)
    × IsWithin (chain_at x.records.queue.waiters.items i) (length x.records.queue.links.items))
    (sym is) (join_within m ends v desk hand free b i c.requires.mine has k told.1 owes w tally plan entered).0

pub settle_value-requires-clause-some : goal.settle_value-requires-clause-some
settle_value-requires-clause-some g c =
    let m = g.L.Revision.machine in
    let ends = g.L.Revision.ends in
    let v = c.args.place.now.me.0 in
    let old = c.args.desk.value in
    let held = c.deref_mut-held.result.now in
    let i = c.args.joinee in
    let k = c.args.of in
    let b = c.args.lone in
    let desk = record held { journal = c.reserve.new.self; plan = c.plan_settle.new.plan } in
    let room = c.reserve.ensures.same in
    let same =
    same_room old held c.reserve.new.self c.plan_settle.new.plan c.deref_mut-held.ensures.value room.0 room.1 in
    let told = c.requires.told in
    let hand = hand_same m ends v old desk told.2.hand same in
    let free : desk.state ≡ All = same.state ∙ c.requires.free in
    let owes = owes_on m ends told.0.seat v.seat i k told.1 told.2.same.1 told.2.same.3 told.3 in
    let has = pass_named v.seat.passes i owes.ended.1 owes.ended.3 in
    let plan : HasPlan desk (settle_deeds i k) (lone_of b i) None = c.plan_settle.ensures in
    let w = c.carry_out-desk.new.place.me.0 in
    let tally = c.carry_out-desk.result.1 in
    let entered = c.carry_out-desk.ensures.entered in
    let is : c.deref_mut-last.result.now ≡ desk =
    c.deref_mut-last.ensures.value ∙ ap (λ x. x.value) c.carry_out-desk.ensures.same in
    subst (λ (x : Desk _ _ _). 0 < x.records.queue.unfinished) (sym is) (join_within m ends v desk hand free b i
    c.requires.mine has k told.1 owes w tally plan entered).1

pub settle_value-requires-clause-lent : goal.settle_value-requires-clause-lent
settle_value-requires-clause-lent g c =
    let m = g.L.Revision.machine in
    let ends = g.L.Revision.ends in
    let v = c.args.place.now.me.0 in
    let old = c.args.desk.value in
    let held = c.deref_mut-held.result.now in
    let i = c.args.joinee in
    let k = c.args.of in
    let b = c.args.lone in
    let desk = record held { journal = c.reserve.new.self; plan = c.plan_settle.new.plan } in
    let room = c.reserve.ensures.same in
    let same =
    same_room old held c.reserve.new.self c.plan_settle.new.plan c.deref_mut-held.ensures.value room.0 room.1 in
    let told = c.requires.told in
    let hand = hand_same m ends v old desk told.2.hand same in
    let free : desk.state ≡ All = same.state ∙ c.requires.free in
    let owes = owes_on m ends told.0.seat v.seat i k told.1 told.2.same.1 told.2.same.3 told.3 in
    let has = pass_named v.seat.passes i owes.ended.1 owes.ended.3 in
    let plan : HasPlan desk (settle_deeds i k) (lone_of b i) None = c.plan_settle.ensures in
    let w = c.carry_out-desk.new.place.me.0 in
    let tally = c.carry_out-desk.result.1 in
    let entered = c.carry_out-desk.ensures.entered in
    let is : c.deref_mut-last.result.now ≡ desk =
    c.deref_mut-last.ensures.value ∙ ap (λ x. x.value) c.carry_out-desk.ensures.same in
    subst (λ (x : Desk _ _ _). b ≡ true → 0 < x.lent) (sym is) (join_within m ends v desk hand free b i
    c.requires.mine has k told.1 owes w tally plan entered).2

pub counted-requires : goal.counted-requires
counted-requires g c =
    let m = g.L.Revision.machine in
    let ends = g.L.Revision.ends in
    let v = c.args.place.now.me.0 in
    let old = c.args.desk.value in
    let held = c.deref_mut-held.result.now in
    let i = c.args.joinee in
    let k = c.args.of in
    let b = c.args.lone in
    let desk = record held { journal = c.reserve.new.self; plan = c.plan_settle.new.plan } in
    let room = c.reserve.ensures.same in
    let same =
    same_room old held c.reserve.new.self c.plan_settle.new.plan c.deref_mut-held.ensures.value room.0 room.1 in
    let told = c.requires.told in
    let hand = hand_same m ends v old desk told.2.hand same in
    let free : desk.state ≡ All = same.state ∙ c.requires.free in
    let owes = owes_on m ends told.0.seat v.seat i k told.1 told.2.same.1 told.2.same.3 told.3 in
    let has = pass_named v.seat.passes i owes.ended.1 owes.ended.3 in
    let plan : HasPlan desk (settle_deeds i k) (lone_of b i) None = c.plan_settle.ensures in
    let w = c.carry_out-desk.new.place.me.0 in
    let tally = c.carry_out-desk.result.1 in
    let entered = c.carry_out-desk.ensures.entered in
    let is : c.deref_mut-last.result.now ≡ desk =
    c.deref_mut-last.ensures.value ∙ ap (λ x. x.value) c.carry_out-desk.ensures.same in
    (join_count m ends v desk hand free b i c.requires.mine has k told.1 owes w tally plan entered).0

pub put_home-requires-clause-hand : goal.put_home-requires-clause-hand
put_home-requires-clause-hand g c =
    let m = g.L.Revision.machine in
    let ends = g.L.Revision.ends in
    let v = c.args.place.now.me.0 in
    let old = c.args.desk.value in
    let held = c.deref_mut-held.result.now in
    let i = c.args.joinee in
    let k = c.args.of in
    let b = c.args.lone in
    let desk = record held { journal = c.reserve.new.self; plan = c.plan_settle.new.plan } in
    let room = c.reserve.ensures.same in
    let same =
    same_room old held c.reserve.new.self c.plan_settle.new.plan c.deref_mut-held.ensures.value room.0 room.1 in
    let told = c.requires.told in
    let hand = hand_same m ends v old desk told.2.hand same in
    let free : desk.state ≡ All = same.state ∙ c.requires.free in
    let owes = owes_on m ends told.0.seat v.seat i k told.1 told.2.same.1 told.2.same.3 told.3 in
    let has = pass_named v.seat.passes i owes.ended.1 owes.ended.3 in
    let plan : HasPlan desk (settle_deeds i k) (lone_of b i) None = c.plan_settle.ensures in
    let w = c.carry_out-desk.new.place.me.0 in
    let tally = c.carry_out-desk.result.1 in
    let entered = c.carry_out-desk.ensures.entered in
    let is : c.deref_mut-last.result.now ≡ desk =
    c.deref_mut-last.ensures.value ∙ ap (λ x. x.value) c.carry_out-desk.ensures.same in
    let one = c.settle_value.new.desk in
    let done : IsSettled b i desk one = subst (λ x. IsSettled b i x one) is c.settle_value.ensures.settled in
    let s = c.settle_value.ensures.same in
    let by_count = c.counted.ensures ∙ (join_count m ends v desk hand free b i c.requires.mine has k told.1 owes w
    tally plan entered).1 in
    join_hand m ends v desk hand free b i c.requires.mine has k told.1 owes w tally plan entered one (record one {
      journal = c.note_settle.new.journal;
    }) done refl refl
    (c.note_settle.ensures.entries
    ∙ ap (λ (z : _ × ℕ). pairs z.0 ++ stamped z.1 (entered_by (settle_deeds i k)))
    (λ j. ((ap (λ x. x.entries.items) s.0 ∙ ap (λ x. x.journal.entries.items) is) j, by_count j)))
    (s.1 ∙ ap (λ x. x.state) is)
    (c.note_settle.ensures.limit ∙ (ap (λ x. x.limit) s.0 ∙ ap (λ x. x.journal.limit) is))
    (s.2 ∙ ap (λ x. x.strays) is)

pub returns-clause-rests : goal.returns-clause-rests
returns-clause-rests g c =
    let m = g.L.Revision.machine in
    let ends = g.L.Revision.ends in
    let v = c.args.place.now.me.0 in
    let old = c.args.desk.value in
    let held = c.deref_mut-held.result.now in
    let i = c.args.joinee in
    let k = c.args.of in
    let b = c.args.lone in
    let desk = record held { journal = c.reserve.new.self; plan = c.plan_settle.new.plan } in
    let room = c.reserve.ensures.same in
    let same =
    same_room old held c.reserve.new.self c.plan_settle.new.plan c.deref_mut-held.ensures.value room.0 room.1 in
    let told = c.requires.told in
    let hand = hand_same m ends v old desk told.2.hand same in
    let free : desk.state ≡ All = same.state ∙ c.requires.free in
    let owes = owes_on m ends told.0.seat v.seat i k told.1 told.2.same.1 told.2.same.3 told.3 in
    let has = pass_named v.seat.passes i owes.ended.1 owes.ended.3 in
    let plan : HasPlan desk (settle_deeds i k) (lone_of b i) None = c.plan_settle.ensures in
    let w = c.carry_out-desk.new.place.me.0 in
    let tally = c.carry_out-desk.result.1 in
    let entered = c.carry_out-desk.ensures.entered in
    let is : c.deref_mut-last.result.now ≡ desk =
    c.deref_mut-last.ensures.value ∙ ap (λ x. x.value) c.carry_out-desk.ensures.same in
    let at = c.put_home.ensures.rests in
    let r = join_rests m ends v desk hand free b i c.requires.mine has k told.1 owes w tally plan entered
    c.put_home.new.place.me.0 (ap (λ x. x.0) at) in
    let limit = r.3 in
    (ap (λ x. x.0.seat.has) at, ap (λ x. x.1) at, r.0, r.1, r.2, omega arith)

pub returns-clause-done : goal.returns-clause-done
returns-clause-done g c =
    let m = g.L.Revision.machine in
    let ends = g.L.Revision.ends in
    let v = c.args.place.now.me.0 in
    let old = c.args.desk.value in
    let held = c.deref_mut-held.result.now in
    let i = c.args.joinee in
    let k = c.args.of in
    let b = c.args.lone in
    let desk = record held { journal = c.reserve.new.self; plan = c.plan_settle.new.plan } in
    let room = c.reserve.ensures.same in
    let same =
    same_room old held c.reserve.new.self c.plan_settle.new.plan c.deref_mut-held.ensures.value room.0 room.1 in
    let told = c.requires.told in
    let hand = hand_same m ends v old desk told.2.hand same in
    let free : desk.state ≡ All = same.state ∙ c.requires.free in
    let owes = owes_on m ends told.0.seat v.seat i k told.1 told.2.same.1 told.2.same.3 told.3 in
    let has = pass_named v.seat.passes i owes.ended.1 owes.ended.3 in
    let plan : HasPlan desk (settle_deeds i k) (lone_of b i) None = c.plan_settle.ensures in
    let w = c.carry_out-desk.new.place.me.0 in
    let tally = c.carry_out-desk.result.1 in
    let entered = c.carry_out-desk.ensures.entered in
    let is : c.deref_mut-last.result.now ≡ desk =
    c.deref_mut-last.ensures.value ∙ ap (λ x. x.value) c.carry_out-desk.ensures.same in
    let x_is = ap (λ x. x.0) c.put_home.ensures.rests in
    λ yes. (
      (join_rests m ends v desk hand free b i c.requires.mine has k told.1 owes w tally plan entered
          c.put_home.new.place.me.0 x_is).4,
      (λ v0 h l0 owes0. join_says m ends v desk hand free b i c.requires.mine has k told.1 owes w tally plan entered
          v0 c.put_home.new.place.me.0 (in_same m ends v0 v old desk h same) x_is l0 owes0),
    )

pub put_home_halted-requires-clause-hand : goal.put_home_halted-requires-clause-hand
put_home_halted-requires-clause-hand g c =
    let m = g.L.Revision.machine in
    let ends = g.L.Revision.ends in
    let v = c.args.place.now.me.0 in
    let old = c.args.desk.value in
    let held = c.deref_mut-held.result.now in
    let desk = record held { journal = c.reserve.new.self } in
    let room = c.reserve.ensures.same in
    let same =
    same_room old held c.reserve.new.self held.plan c.deref_mut-held.ensures.value room.0 room.1 in
    hand_same m ends v old desk c.requires.told.2.hand same

pub returns-then-not-reserve-clause-none : goal.returns-then-not-reserve-clause-none
returns-then-not-reserve-clause-none g c =
    let m = g.L.Revision.machine in
    let ends = g.L.Revision.ends in
    let v = c.args.place.now.me.0 in
    let old = c.args.desk.value in
    let held = c.deref_mut-held.result.now in
    let desk = record held { journal = c.reserve.new.self } in
    let room = c.reserve.ensures.same in
    let same =
    same_room old held c.reserve.new.self held.plan c.deref_mut-held.ensures.value room.0 room.1 in
    λ no. (
      c.put_home_halted.ensures.mine,
      (λ v0 h. c.put_home_halted.ensures.halted v0 (in_same m ends v0 v old
          desk h same)),
    )
