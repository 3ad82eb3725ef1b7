-- Answers of TurnHub::wait_planned: the joiner has a record and waits, and what comes first is ready then too.
use Rattle.std.proofs.Common.{◌≡◌, ◌<◌, length, refl, sym, ap, ◌∙◌, subst, arith}
use Rattle.hub_core.specs.declared.status.Status.TheVariants.{Waiting}
use Rattle.hub_core.specs.declared.desk.Desk.{Desk}
use Rattle.hub_core.specs.Chains.{DelaysOne}
use Rattle.hub_core.specs.Recorded.{put_record}
use Rattle.hub_core.specs.Tally.{record_at}
use Rattle.turn_hub.proofs.Finding.{pass_on}
use Rattle.turn_hub.proofs.Waits.{can_wait, wait_record, wait_rests, wait_first, wait_hand, wait_says}
use Rattle.turn_hub.proofs.hub.TurnHub.wait_planned.Goals as goal

pub carry_out-desk-requires-clause-can : goal.carry_out-desk-requires-clause-can
carry_out-desk-requires-clause-can g c =
    let m = g.L.Revision.machine in
    let ends = g.L.Revision.ends in
    let v = c.args.place.now.me.0 in
    let desk = c.args.desk.value in
    let k = c.args.of in
    let a = c.args.at in
    let told = c.requires.told in
    let hand = told.1.hand in
    let free = c.requires.free in
    let mine = c.requires.mine in
    let p = pass_on m ends told.0.seat v.seat k told.1.same.1 told.1.same.3 told.2 in
    let plan = c.requires.plan in
    can_wait m ends v desk hand free mine k a p plan

pub wait_value-requires-clause-out : goal.wait_value-requires-clause-out
wait_value-requires-clause-out g c =
    let m = g.L.Revision.machine in
    let ends = g.L.Revision.ends in
    let v = c.args.place.now.me.0 in
    let desk = c.args.desk.value in
    let k = c.args.of in
    let a = c.args.at in
    let told = c.requires.told in
    let hand = told.1.hand in
    let free = c.requires.free in
    let mine = c.requires.mine in
    let p = pass_on m ends told.0.seat v.seat k told.1.same.1 told.1.same.3 told.2 in
    let plan = c.requires.plan in
    let w = c.carry_out-desk.new.place.me.0 in
    let tally = c.carry_out-desk.result.1 in
    let entered = c.carry_out-desk.ensures.entered in
    let last = c.deref_mut-last.result.now in
    let is : last ≡ desk = c.deref_mut-last.ensures.value ∙ ap (λ x. x.value) c.carry_out-desk.ensures.same in
    ap (λ z. record_at z.records.list.items k) is ∙ (wait_record m ends v desk hand free mine k a p w tally plan
    entered).0

pub wait_value-requires-clause-within : goal.wait_value-requires-clause-within
wait_value-requires-clause-within g c =
    let m = g.L.Revision.machine in
    let ends = g.L.Revision.ends in
    let v = c.args.place.now.me.0 in
    let desk = c.args.desk.value in
    let k = c.args.of in
    let a = c.args.at in
    let told = c.requires.told in
    let hand = told.1.hand in
    let free = c.requires.free in
    let mine = c.requires.mine in
    let p = pass_on m ends told.0.seat v.seat k told.1.same.1 told.1.same.3 told.2 in
    let plan = c.requires.plan in
    let w = c.carry_out-desk.new.place.me.0 in
    let tally = c.carry_out-desk.result.1 in
    let entered = c.carry_out-desk.ensures.entered in
    let last = c.deref_mut-last.result.now in
    let is : last ≡ desk = c.deref_mut-last.ensures.value ∙ ap (λ x. x.value) c.carry_out-desk.ensures.same in (
      subst (λ (z : Desk _ _ _). k < length z.records.queue.links.items) (sym is)
          (wait_record m ends v desk hand free mine k a p w tally plan entered).1,
      subst (λ z. z < length last.records.queue.waiters.items) (sym c.on-on.ensures)
          (subst (λ (z : Desk _ _ _). m.on a < length z.records.queue.waiters.items) (sym is) c.requires.within),
    )

pub take_first-next-requires-clause-within : goal.take_first-next-requires-clause-within
take_first-next-requires-clause-within g c =
    let m = g.L.Revision.machine in
    let ends = g.L.Revision.ends in
    let v = c.args.place.now.me.0 in
    let desk = c.args.desk.value in
    let k = c.args.of in
    let a = c.args.at in
    let told = c.requires.told in
    let hand = told.1.hand in
    let free = c.requires.free in
    let mine = c.requires.mine in
    let p = pass_on m ends told.0.seat v.seat k told.1.same.1 told.1.same.3 told.2 in
    let plan = c.requires.plan in
    let w = c.carry_out-desk.new.place.me.0 in
    let tally = c.carry_out-desk.result.1 in
    let entered = c.carry_out-desk.ensures.entered in
    let last = c.deref_mut-last.result.now in
    let is : last ≡ desk = c.deref_mut-last.ensures.value ∙ ap (λ x. x.value) c.carry_out-desk.ensures.same in
    let one = c.wait_value.new.records in
    let listed = c.wait_value.ensures.now ∙ ap (λ z. put_record z.records.list.items k (Waiting a)) is in
    let delays = subst (λ z. DelaysOne z.records.queue one.queue k (m.on a)) is
    (subst (λ z. DelaysOne last.records.queue one.queue k z) c.on-on.ensures c.wait_value.ensures.queue) in
    (wait_first m ends v desk hand free mine k a p w tally plan entered told.3 c.requires.group c.requires.tracked one
    listed delays).0

pub take_first-next-requires-clause-first : goal.take_first-next-requires-clause-first
take_first-next-requires-clause-first g c =
    let m = g.L.Revision.machine in
    let ends = g.L.Revision.ends in
    let v = c.args.place.now.me.0 in
    let desk = c.args.desk.value in
    let k = c.args.of in
    let a = c.args.at in
    let told = c.requires.told in
    let hand = told.1.hand in
    let free = c.requires.free in
    let mine = c.requires.mine in
    let p = pass_on m ends told.0.seat v.seat k told.1.same.1 told.1.same.3 told.2 in
    let plan = c.requires.plan in
    let w = c.carry_out-desk.new.place.me.0 in
    let tally = c.carry_out-desk.result.1 in
    let entered = c.carry_out-desk.ensures.entered in
    let last = c.deref_mut-last.result.now in
    let is : last ≡ desk = c.deref_mut-last.ensures.value ∙ ap (λ x. x.value) c.carry_out-desk.ensures.same in
    let one = c.wait_value.new.records in
    let listed = c.wait_value.ensures.now ∙ ap (λ z. put_record z.records.list.items k (Waiting a)) is in
    let delays = subst (λ z. DelaysOne z.records.queue one.queue k (m.on a)) is
    (subst (λ z. DelaysOne last.records.queue one.queue k z) c.on-on.ensures c.wait_value.ensures.queue) in
    (wait_first m ends v desk hand free mine k a p w tally plan entered told.3 c.requires.group c.requires.tracked one
    listed delays).1

pub put_home-requires-clause-hand : goal.put_home-requires-clause-hand
put_home-requires-clause-hand g c =
    let m = g.L.Revision.machine in
    let ends = g.L.Revision.ends in
    let v = c.args.place.now.me.0 in
    let desk = c.args.desk.value in
    let k = c.args.of in
    let a = c.args.at in
    let told = c.requires.told in
    let hand = told.1.hand in
    let free = c.requires.free in
    let mine = c.requires.mine in
    let p = pass_on m ends told.0.seat v.seat k told.1.same.1 told.1.same.3 told.2 in
    let plan = c.requires.plan in
    let w = c.carry_out-desk.new.place.me.0 in
    let tally = c.carry_out-desk.result.1 in
    let entered = c.carry_out-desk.ensures.entered in
    let last = c.deref_mut-last.result.now in
    let is : last ≡ desk = c.deref_mut-last.ensures.value ∙ ap (λ x. x.value) c.carry_out-desk.ensures.same in
    let one = c.wait_value.new.records in
    let listed = c.wait_value.ensures.now ∙ ap (λ z. put_record z.records.list.items k (Waiting a)) is in
    let delays = subst (λ z. DelaysOne z.records.queue one.queue k (m.on a)) is
    (subst (λ z. DelaysOne last.records.queue one.queue k z) c.on-on.ensures c.wait_value.ensures.queue) in
    let two = c.take_first-next.new.records in
    let next = c.take_first-next.result in
    let taken = c.take_first-next.ensures in
    wait_hand m ends v desk hand free mine k a p w tally plan entered told.3 c.requires.group c.requires.tracked one
    listed delays two next taken (record last { records = two }) refl
    (ap (λ z. z.journal) is) (ap (λ z. z.state) is) (ap (λ z. z.lent) is) (ap (λ z. z.strays) is)

pub returns-clause-rests : goal.returns-clause-rests
returns-clause-rests g c =
    let m = g.L.Revision.machine in
    let ends = g.L.Revision.ends in
    let v = c.args.place.now.me.0 in
    let desk = c.args.desk.value in
    let k = c.args.of in
    let a = c.args.at in
    let told = c.requires.told in
    let hand = told.1.hand in
    let free = c.requires.free in
    let mine = c.requires.mine in
    let p = pass_on m ends told.0.seat v.seat k told.1.same.1 told.1.same.3 told.2 in
    let plan = c.requires.plan in
    let w = c.carry_out-desk.new.place.me.0 in
    let tally = c.carry_out-desk.result.1 in
    let entered = c.carry_out-desk.ensures.entered in
    let at = c.put_home.ensures.rests in
    let r = wait_rests m ends v desk hand free mine k a p w tally plan entered c.put_home.new.place.me.0 (ap
    (λ x. x.0) at) in
    let limit = r.3 in
    (ap (λ x. x.0.seat.has) at, ap (λ x. x.1) at, r.0, r.1, r.2, omega arith)

pub returns-clause-mine : goal.returns-clause-mine
returns-clause-mine g c =
    let m = g.L.Revision.machine in
    let ends = g.L.Revision.ends in
    let v = c.args.place.now.me.0 in
    let desk = c.args.desk.value in
    let k = c.args.of in
    let a = c.args.at in
    let told = c.requires.told in
    let hand = told.1.hand in
    let free = c.requires.free in
    let mine = c.requires.mine in
    let p = pass_on m ends told.0.seat v.seat k told.1.same.1 told.1.same.3 told.2 in
    let plan = c.requires.plan in
    let w = c.carry_out-desk.new.place.me.0 in
    let tally = c.carry_out-desk.result.1 in
    let entered = c.carry_out-desk.ensures.entered in
    (wait_rests m ends v desk hand free mine k a p w tally plan entered c.put_home.new.place.me.0 (ap
    (λ x. x.0) c.put_home.ensures.rests)).4 ∙ mine

pub returns-clause-answer : goal.returns-clause-answer
returns-clause-answer g c =
    let m = g.L.Revision.machine in
    let ends = g.L.Revision.ends in
    let v = c.args.place.now.me.0 in
    let desk = c.args.desk.value in
    let k = c.args.of in
    let a = c.args.at in
    let told = c.requires.told in
    let hand = told.1.hand in
    let free = c.requires.free in
    let mine = c.requires.mine in
    let p = pass_on m ends told.0.seat v.seat k told.1.same.1 told.1.same.3 told.2 in
    let plan = c.requires.plan in
    let w = c.carry_out-desk.new.place.me.0 in
    let tally = c.carry_out-desk.result.1 in
    let entered = c.carry_out-desk.ensures.entered in
    let last = c.deref_mut-last.result.now in
    let is : last ≡ desk = c.deref_mut-last.ensures.value ∙ ap (λ x. x.value) c.carry_out-desk.ensures.same in
    let one = c.wait_value.new.records in
    let listed = c.wait_value.ensures.now ∙ ap (λ z. put_record z.records.list.items k (Waiting a)) is in
    let delays = subst (λ z. DelaysOne z.records.queue one.queue k (m.on a)) is
    (subst (λ z. DelaysOne last.records.queue one.queue k z) c.on-on.ensures c.wait_value.ensures.queue) in
    let two = c.take_first-next.new.records in
    let next = c.take_first-next.result in
    let taken = c.take_first-next.ensures in
    λ v0 h. wait_says m ends v desk hand free mine k a p w tally plan entered told.3 c.requires.group
    c.requires.tracked one listed delays two v0 c.put_home.new.place.me.0 h (ap
    (λ x. x.0) c.put_home.ensures.rests) next taken
