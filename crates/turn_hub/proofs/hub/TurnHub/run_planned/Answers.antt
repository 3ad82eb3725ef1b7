-- Answers of TurnHub::run_planned: the first that is ready is before its leg, and is what is taken.
use Rattle.std.proofs.Common.{rules, ◌≡◌, length, refl, sym, ap, ◌∙◌, subst, arith}
use Rattle.hub_core.specs.declared.desk.Desk.{Desk}
use Rattle.hub_core.specs.declared.status.Status.TheVariants.{Ready}
use Rattle.hub_core.specs.Chains.{IsWithin}
use Rattle.hub_core.specs.Marks.{first_in}
use Rattle.turn_hub.specs.Comings.{IsFirstKept, IsFirstTaken}
use Rattle.turn_hub.proofs.Draws.{can_take, take_rests, take_within}
use Rattle.turn_hub.specs.Answers.{TookJoinee}
use Rattle.turn_hub.proofs.Runs.{runner_taken, run_same, joinee_hand, joinee_says}
use Rattle.turn_hub.proofs.hub.TurnHub.run_planned.Goals as goal

pub carry_out-desk-requires-clause-can : goal.carry_out-desk-requires-clause-can
carry_out-desk-requires-clause-can g c =
    let m = g.L.Revision.machine in
    let ends = g.L.Revision.ends in
    let v = c.args.place.now.me.0 in
    let desk = c.args.desk.value in
    let n = c.args.number in
    let hand = c.requires.told.1.hand in
    let free = c.requires.free in
    let first = c.requires.first in
    let plan = c.requires.plan in
    can_take m ends v desk hand free n first plan

pub take_first-next-requires-clause-within : goal.take_first-next-requires-clause-within
take_first-next-requires-clause-within g c =
    let m = g.L.Revision.machine in
    let ends = g.L.Revision.ends in
    let v = c.args.place.now.me.0 in
    let desk = c.args.desk.value in
    let n = c.args.number in
    let hand = c.requires.told.1.hand in
    let free = c.requires.free in
    let first = c.requires.first in
    let ready = c.requires.ready in
    let plan = c.requires.plan in
    let w = c.carry_out-desk.new.place.me.0 in
    let tally = c.carry_out-desk.result.1 in
    let entered = c.carry_out-desk.ensures.entered in
    let last = c.deref_mut-last.result.now in
    let is : last ≡ desk = c.deref_mut-last.ensures.value ∙ ap (λ x. x.value) c.carry_out-desk.ensures.same in
    subst (λ (z : Desk _ _ _). IsWithin z.records.queue.ready (length z.records.queue.links.items)) (sym is)
    (take_within m ends v desk hand free n first w tally plan entered)

pub take_first-next-requires-clause-first : goal.take_first-next-requires-clause-first
take_first-next-requires-clause-first g c =
    let desk = c.args.desk.value in
    let first = c.requires.first in
    let ready = c.requires.ready in
    let last = c.deref_mut-last.result.now in
    let is : last ≡ desk = c.deref_mut-last.ensures.value ∙ ap (λ x. x.value) c.carry_out-desk.ensures.same in
    subst (λ (z : Desk _ _ _). IsFirstKept z.records.list.items (first_in z.records.queue.ready)) (sym is)
    (subst (IsFirstKept desk.records.list.items) (sym first) (Ready ready.0, ready.1, tt))

pub put_home-requires-clause-hand : goal.put_home-requires-clause-hand
put_home-requires-clause-hand g c =
    let m = g.L.Revision.machine in
    let ends = g.L.Revision.ends in
    let v = c.args.place.now.me.0 in
    let desk = c.args.desk.value in
    let n = c.args.number in
    let hand = c.requires.told.1.hand in
    let free = c.requires.free in
    let first = c.requires.first in
    let ready = c.requires.ready in
    let plan = c.requires.plan in
    let w = c.carry_out-desk.new.place.me.0 in
    let tally = c.carry_out-desk.result.1 in
    let entered = c.carry_out-desk.ensures.entered in
    let last = c.deref_mut-last.result.now in
    let is : last ≡ desk = c.deref_mut-last.ensures.value ∙ ap (λ x. x.value) c.carry_out-desk.ensures.same in
    let two = c.take_first-next.new.records in
    let next = c.take_first-next.result in
    let taken = subst (λ z. IsFirstTaken z.records two next) is c.take_first-next.ensures in
    joinee_hand m ends v desk hand free n first ready.0 ready.1 w tally plan entered two next taken
    (record last { records = two }) refl
    (ap (λ z. z.journal) is) (ap (λ z. z.state) is) (ap (λ z. z.lent) is) (ap (λ z. z.strays) is)

pub empty-requires : goal.empty-requires
empty-requires g c =
    let desk = c.args.desk.value in
    let n = c.args.number in
    let first = c.requires.first in
    let ready = c.requires.ready in
    let last = c.deref_mut-last.result.now in
    let is : last ≡ desk = c.deref_mut-last.ensures.value ∙ ap (λ x. x.value) c.carry_out-desk.ensures.same in
    let two = c.take_first-next.new.records in
    let next = c.take_first-next.result in
    let taken = subst (λ z. IsFirstTaken z.records two next) is c.take_first-next.ensures in
    let run = runner_taken desk.records two n ready.0 next first ready.1 taken in
    let no = run in search rules

pub returns-clause-rests : goal.returns-clause-rests
returns-clause-rests g c =
    let m = g.L.Revision.machine in
    let ends = g.L.Revision.ends in
    let v = c.args.place.now.me.0 in
    let desk = c.args.desk.value in
    let n = c.args.number in
    let hand = c.requires.told.1.hand in
    let free = c.requires.free in
    let first = c.requires.first in
    let plan = c.requires.plan in
    let w = c.carry_out-desk.new.place.me.0 in
    let tally = c.carry_out-desk.result.1 in
    let entered = c.carry_out-desk.ensures.entered in
    let at = c.put_home.ensures.rests in
    let r = take_rests m ends v desk hand free n first w tally plan entered c.put_home.new.place.me.0 (ap
    (λ x. x.0) at) in
    let limit = r.3 in
    (ap (λ x. x.0.seat.has) at, ap (λ x. x.1) at, r.0, r.1, r.2, omega arith)

pub returns-clause-mine : goal.returns-clause-mine
returns-clause-mine g c =
    let m = g.L.Revision.machine in
    let ends = g.L.Revision.ends in
    let v = c.args.place.now.me.0 in
    let desk = c.args.desk.value in
    let n = c.args.number in
    let hand = c.requires.told.1.hand in
    let free = c.requires.free in
    let first = c.requires.first in
    let plan = c.requires.plan in
    let w = c.carry_out-desk.new.place.me.0 in
    let tally = c.carry_out-desk.result.1 in
    let entered = c.carry_out-desk.ensures.entered in
    (take_rests m ends v desk hand free n first w tally plan entered c.put_home.new.place.me.0 (ap
    (λ x. x.0) c.put_home.ensures.rests)).4

pub returns-clause-answer : goal.returns-clause-answer
returns-clause-answer g c =
    let m = g.L.Revision.machine in
    let ends = g.L.Revision.ends in
    let v = c.args.place.now.me.0 in
    let desk = c.args.desk.value in
    let n = c.args.number in
    let hand = c.requires.told.1.hand in
    let free = c.requires.free in
    let first = c.requires.first in
    let ready = c.requires.ready in
    let plan = c.requires.plan in
    let w = c.carry_out-desk.new.place.me.0 in
    let tally = c.carry_out-desk.result.1 in
    let entered = c.carry_out-desk.ensures.entered in
    let last = c.deref_mut-last.result.now in
    let is : last ≡ desk = c.deref_mut-last.ensures.value ∙ ap (λ x. x.value) c.carry_out-desk.ensures.same in
    let two = c.take_first-next.new.records in
    let next = c.take_first-next.result in
    let taken = subst (λ z. IsFirstTaken z.records two next) is c.take_first-next.ensures in
    let run = runner_taken desk.records two n ready.0 next first ready.1 taken in
    λ v0 a h on. subst (λ r. TookJoinee m ends v0.seat c.put_home.new.place.me.0.seat a n r)
    (run_same next c.in-Run.number n c.in-Run.runner ready.0 c.in-Run.is run)
    (joinee_says m ends v desk hand free n first ready.0 ready.1 w tally plan entered v0 c.put_home.new.place.me.0 h
    (ap (λ x. x.0) c.put_home.ensures.rests) a on)
