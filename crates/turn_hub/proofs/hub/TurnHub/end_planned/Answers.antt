-- Answers of TurnHub::end_planned: the revision has ended, and what comes first goes on with the seat.
use Rattle.std.proofs.Common.{◌≡◌, ◌<◌, ◌++◌, ℕ, Bool, length, refl, sym, ap, ◌∙◌, subst, arith}
use Rattle.hub_core.specs.declared.status.Status.TheVariants.{Over}
use Rattle.hub_core.specs.declared.desk.Desk.{Desk}
use Rattle.hub_core.specs.Chains.{EndsOne, IsWithin, chain_at}
use Rattle.hub_core.specs.Recorded.{put_record}
use Rattle.hub_core.specs.Rounds.{stamped}
use Rattle.hub_core.specs.Tally.{pairs, record_at, entered as entered_by}
use Rattle.turn_hub.specs.Plans.{end_deeds}
use Rattle.turn_hub.specs.Comings.{coming_deeds}
use Rattle.turn_hub.proofs.Finding.{pass_on}
use Rattle.turn_hub.proofs.Ends.{end_pass}
use Rattle.turn_hub.proofs.EndsOn.{can_end_on, on_count, on_rests, on_record, on_within, on_first, on_hand, on_says}
use Rattle.turn_hub.proofs.hub.TurnHub.end_planned.Goals as goal

pub carry_out-desk-requires-clause-can : goal.carry_out-desk-requires-clause-can
carry_out-desk-requires-clause-can g c =
    let m = g.L.Revision.machine in
    let ends = g.L.Revision.ends in
    let v = c.args.place.now.me.0 in
    let desk = c.args.desk.value in
    let k = c.args.of in
    let e = c.args.end in
    let b = g.L.Revision.by_join e in
    let told = c.requires.told in
    let hand = told.1.hand in
    let free = c.requires.free in
    let mine = c.requires.mine in
    let p = pass_on m ends told.0.seat v.seat k told.1.same.1 told.1.same.3
    (end_pass m ends b told.0.seat k e told.2) in
    let plan = c.requires.plan in
    let what = c.args.coming in
    let comes = c.requires.coming in
    can_end_on m ends v desk hand free mine b k e p what comes.0 comes.1 plan

pub counted-requires : goal.counted-requires
counted-requires g c =
    let m = g.L.Revision.machine in
    let ends = g.L.Revision.ends in
    let v = c.args.place.now.me.0 in
    let desk = c.args.desk.value in
    let k = c.args.of in
    let e = c.args.end in
    let b = g.L.Revision.by_join e in
    let told = c.requires.told in
    let hand = told.1.hand in
    let free = c.requires.free in
    let mine = c.requires.mine in
    let p = pass_on m ends told.0.seat v.seat k told.1.same.1 told.1.same.3
    (end_pass m ends b told.0.seat k e told.2) in
    let plan = c.requires.plan in
    let what = c.args.coming in
    let comes = c.requires.coming in
    let w = c.carry_out-desk.new.place.me.0 in
    let tally = c.carry_out-desk.result.1 in
    let entered = c.carry_out-desk.ensures.entered in
    (on_count m ends v desk hand free mine b k e p what comes.0 comes.1 w tally plan entered).0

pub end-requires-clause-out : goal.end-requires-clause-out
end-requires-clause-out g c =
    let m = g.L.Revision.machine in
    let ends = g.L.Revision.ends in
    let v = c.args.place.now.me.0 in
    let desk = c.args.desk.value in
    let k = c.args.of in
    let e = c.args.end in
    let b = g.L.Revision.by_join e in
    let told = c.requires.told in
    let hand = told.1.hand in
    let free = c.requires.free in
    let mine = c.requires.mine in
    let p = pass_on m ends told.0.seat v.seat k told.1.same.1 told.1.same.3
    (end_pass m ends b told.0.seat k e told.2) in
    let plan = c.requires.plan in
    let what = c.args.coming in
    let comes = c.requires.coming in
    let w = c.carry_out-desk.new.place.me.0 in
    let tally = c.carry_out-desk.result.1 in
    let entered = c.carry_out-desk.ensures.entered in
    let last = c.deref_mut-last.result.now in
    let is : last ≡ desk = c.deref_mut-last.ensures.value ∙ ap (λ x. x.value) c.carry_out-desk.ensures.same in
    ap (λ z. record_at z.records.list.items k) is ∙ on_record m ends v desk hand free mine b k e p what comes.0
    comes.1 w tally plan entered

pub end-requires-clause-within : goal.end-requires-clause-within
end-requires-clause-within g c =
    let m = g.L.Revision.machine in
    let ends = g.L.Revision.ends in
    let v = c.args.place.now.me.0 in
    let desk = c.args.desk.value in
    let k = c.args.of in
    let e = c.args.end in
    let b = g.L.Revision.by_join e in
    let told = c.requires.told in
    let hand = told.1.hand in
    let free = c.requires.free in
    let mine = c.requires.mine in
    let p = pass_on m ends told.0.seat v.seat k told.1.same.1 told.1.same.3
    (end_pass m ends b told.0.seat k e told.2) in
    let plan = c.requires.plan in
    let what = c.args.coming in
    let comes = c.requires.coming in
    let w = c.carry_out-desk.new.place.me.0 in
    let tally = c.carry_out-desk.result.1 in
    let entered = c.carry_out-desk.ensures.entered in
    let last = c.deref_mut-last.result.now in
    let is : last ≡ desk = c.deref_mut-last.ensures.value ∙ ap (λ x. x.value) c.carry_out-desk.ensures.same in
    subst (λ z. (k < length z.records.queue.waiters.items)
    × IsWithin (chain_at z.records.queue.waiters.items k) (length z.records.queue.links.items))
    (sym is) (on_within m ends v desk hand free mine b k e p what comes.0 comes.1 w tally plan entered).1

pub end-requires-clause-some : goal.end-requires-clause-some
end-requires-clause-some g c =
    let m = g.L.Revision.machine in
    let ends = g.L.Revision.ends in
    let v = c.args.place.now.me.0 in
    let desk = c.args.desk.value in
    let k = c.args.of in
    let e = c.args.end in
    let b = g.L.Revision.by_join e in
    let told = c.requires.told in
    let hand = told.1.hand in
    let free = c.requires.free in
    let mine = c.requires.mine in
    let p = pass_on m ends told.0.seat v.seat k told.1.same.1 told.1.same.3
    (end_pass m ends b told.0.seat k e told.2) in
    let plan = c.requires.plan in
    let what = c.args.coming in
    let comes = c.requires.coming in
    let w = c.carry_out-desk.new.place.me.0 in
    let tally = c.carry_out-desk.result.1 in
    let entered = c.carry_out-desk.ensures.entered in
    let last = c.deref_mut-last.result.now in
    let is : last ≡ desk = c.deref_mut-last.ensures.value ∙ ap (λ x. x.value) c.carry_out-desk.ensures.same in
    subst (λ z. 0 < z.records.queue.unfinished) (sym is) (on_within m ends v desk hand free mine b k e p what comes.0
    comes.1 w tally plan entered).2

pub go_on-step-requires-clause-within : goal.go_on-step-requires-clause-within
go_on-step-requires-clause-within g c =
    let m = g.L.Revision.machine in
    let ends = g.L.Revision.ends in
    let v = c.args.place.now.me.0 in
    let desk = c.args.desk.value in
    let k = c.args.of in
    let e = c.args.end in
    let b = g.L.Revision.by_join e in
    let told = c.requires.told in
    let hand = told.1.hand in
    let free = c.requires.free in
    let mine = c.requires.mine in
    let p = pass_on m ends told.0.seat v.seat k told.1.same.1 told.1.same.3
    (end_pass m ends b told.0.seat k e told.2) in
    let plan = c.requires.plan in
    let what = c.args.coming in
    let comes = c.requires.coming in
    let w = c.carry_out-desk.new.place.me.0 in
    let tally = c.carry_out-desk.result.1 in
    let entered = c.carry_out-desk.ensures.entered in
    let last = c.deref_mut-last.result.now in
    let is : last ≡ desk = c.deref_mut-last.ensures.value ∙ ap (λ x. x.value) c.carry_out-desk.ensures.same in
    let one = c.end.new.self in
    let listed = c.end.ensures.now ∙ ap (λ z. put_record z.records.list.items k (Over e)) is in
    let ended = subst (λ z. EndsOne z.records.queue one.queue k) is c.end.ensures.queue in
    (on_first m ends v desk hand free mine b k e p what comes.0 comes.1 w tally plan entered one listed ended).0

pub go_on-step-requires-clause-first : goal.go_on-step-requires-clause-first
go_on-step-requires-clause-first g c =
    let m = g.L.Revision.machine in
    let ends = g.L.Revision.ends in
    let v = c.args.place.now.me.0 in
    let desk = c.args.desk.value in
    let k = c.args.of in
    let e = c.args.end in
    let b = g.L.Revision.by_join e in
    let told = c.requires.told in
    let hand = told.1.hand in
    let free = c.requires.free in
    let mine = c.requires.mine in
    let p = pass_on m ends told.0.seat v.seat k told.1.same.1 told.1.same.3
    (end_pass m ends b told.0.seat k e told.2) in
    let plan = c.requires.plan in
    let what = c.args.coming in
    let comes = c.requires.coming in
    let w = c.carry_out-desk.new.place.me.0 in
    let tally = c.carry_out-desk.result.1 in
    let entered = c.carry_out-desk.ensures.entered in
    let last = c.deref_mut-last.result.now in
    let is : last ≡ desk = c.deref_mut-last.ensures.value ∙ ap (λ x. x.value) c.carry_out-desk.ensures.same in
    let one = c.end.new.self in
    let listed = c.end.ensures.now ∙ ap (λ z. put_record z.records.list.items k (Over e)) is in
    let ended = subst (λ z. EndsOne z.records.queue one.queue k) is c.end.ensures.queue in
    (on_first m ends v desk hand free mine b k e p what comes.0 comes.1 w tally plan entered one listed ended).1

pub go_on-step-requires-clause-joins : goal.go_on-step-requires-clause-joins
go_on-step-requires-clause-joins g c =
    let m = g.L.Revision.machine in
    let ends = g.L.Revision.ends in
    let v = c.args.place.now.me.0 in
    let desk = c.args.desk.value in
    let k = c.args.of in
    let e = c.args.end in
    let b = g.L.Revision.by_join e in
    let told = c.requires.told in
    let hand = told.1.hand in
    let free = c.requires.free in
    let mine = c.requires.mine in
    let p = pass_on m ends told.0.seat v.seat k told.1.same.1 told.1.same.3
    (end_pass m ends b told.0.seat k e told.2) in
    let plan = c.requires.plan in
    let what = c.args.coming in
    let comes = c.requires.coming in
    let w = c.carry_out-desk.new.place.me.0 in
    let tally = c.carry_out-desk.result.1 in
    let entered = c.carry_out-desk.ensures.entered in
    let last = c.deref_mut-last.result.now in
    let is : last ≡ desk = c.deref_mut-last.ensures.value ∙ ap (λ x. x.value) c.carry_out-desk.ensures.same in
    let one = c.end.new.self in
    let listed = c.end.ensures.now ∙ ap (λ z. put_record z.records.list.items k (Over e)) is in
    let ended = subst (λ z. EndsOne z.records.queue one.queue k) is c.end.ensures.queue in
    (on_first m ends v desk hand free mine b k e p what comes.0 comes.1 w tally plan entered one listed ended).2

pub put_home-requires-clause-hand : goal.put_home-requires-clause-hand
put_home-requires-clause-hand g c =
    let m = g.L.Revision.machine in
    let ends = g.L.Revision.ends in
    let v = c.args.place.now.me.0 in
    let desk = c.args.desk.value in
    let k = c.args.of in
    let e = c.args.end in
    let b = g.L.Revision.by_join e in
    let told = c.requires.told in
    let hand = told.1.hand in
    let free = c.requires.free in
    let mine = c.requires.mine in
    let p = pass_on m ends told.0.seat v.seat k told.1.same.1 told.1.same.3
    (end_pass m ends b told.0.seat k e told.2) in
    let plan = c.requires.plan in
    let what = c.args.coming in
    let comes = c.requires.coming in
    let w = c.carry_out-desk.new.place.me.0 in
    let tally = c.carry_out-desk.result.1 in
    let entered = c.carry_out-desk.ensures.entered in
    let last = c.deref_mut-last.result.now in
    let is : last ≡ desk = c.deref_mut-last.ensures.value ∙ ap (λ x. x.value) c.carry_out-desk.ensures.same in
    let one = c.end.new.self in
    let listed = c.end.ensures.now ∙ ap (λ z. put_record z.records.list.items k (Over e)) is in
    let ended = subst (λ z. EndsOne z.records.queue one.queue k) is c.end.ensures.queue in
    let two = c.go_on-step.new.records in
    let step = c.go_on-step.result in
    let went = c.go_on-step.ensures in
    let noted = c.note_end_on.ensures in
    let by = c.is_by_join-by_join.ensures in
    let by_count = c.counted.ensures ∙ (on_count m ends v desk hand free mine b k e p what comes.0 comes.1 w tally
    plan entered).1 in
    on_hand m ends v desk hand free mine b k e p what comes.0 comes.1 w tally plan entered one listed ended
    g.L.Revision.claimed g.L.Revision.stopped g.L.Revision.claimed_group g.L.Revision.stopped_group two step went
    (record last {
      journal = c.note_end_on.new.journal;
      records = two;
    }) refl
    (noted.entries
    ∙ ap (λ (z : Desk _ _ _ × Bool × ℕ). pairs z.0.journal.entries.items
    ++ stamped z.2 (entered_by (end_deeds z.1 k ++ coming_deeds what)))
    (λ i. (is i, by i, by_count i)))
    (ap (λ z. z.state) is) (noted.limit ∙ ap (λ z. z.journal.limit) is) (ap (λ z. z.lent) is) (ap (λ z. z.strays) is)

pub returns-clause-rests : goal.returns-clause-rests
returns-clause-rests g c =
    let m = g.L.Revision.machine in
    let ends = g.L.Revision.ends in
    let v = c.args.place.now.me.0 in
    let desk = c.args.desk.value in
    let k = c.args.of in
    let e = c.args.end in
    let b = g.L.Revision.by_join e in
    let told = c.requires.told in
    let hand = told.1.hand in
    let free = c.requires.free in
    let mine = c.requires.mine in
    let p = pass_on m ends told.0.seat v.seat k told.1.same.1 told.1.same.3
    (end_pass m ends b told.0.seat k e told.2) in
    let plan = c.requires.plan in
    let what = c.args.coming in
    let comes = c.requires.coming in
    let w = c.carry_out-desk.new.place.me.0 in
    let tally = c.carry_out-desk.result.1 in
    let entered = c.carry_out-desk.ensures.entered in
    let at = c.put_home.ensures.rests in
    let r = on_rests m ends v desk hand free mine b k e p what comes.0 comes.1 w tally plan entered
    c.put_home.new.place.me.0 (ap (λ x. x.0) at) in
    let limit = r.3 in
    (ap (λ x. x.0.seat.has) at, ap (λ x. x.1) at, r.0, r.1, r.2, omega arith)

pub returns-clause-mine : goal.returns-clause-mine
returns-clause-mine g c =
    let m = g.L.Revision.machine in
    let ends = g.L.Revision.ends in
    let v = c.args.place.now.me.0 in
    let desk = c.args.desk.value in
    let k = c.args.of in
    let e = c.args.end in
    let b = g.L.Revision.by_join e in
    let told = c.requires.told in
    let hand = told.1.hand in
    let free = c.requires.free in
    let mine = c.requires.mine in
    let p = pass_on m ends told.0.seat v.seat k told.1.same.1 told.1.same.3
    (end_pass m ends b told.0.seat k e told.2) in
    let plan = c.requires.plan in
    let what = c.args.coming in
    let comes = c.requires.coming in
    let w = c.carry_out-desk.new.place.me.0 in
    let tally = c.carry_out-desk.result.1 in
    let entered = c.carry_out-desk.ensures.entered in
    (on_rests m ends v desk hand free mine b k e p what comes.0 comes.1 w tally plan entered c.put_home.new.place.me.0
    (ap (λ x. x.0) c.put_home.ensures.rests)).4 ∙ mine

pub returns-clause-answer : goal.returns-clause-answer
returns-clause-answer g c =
    let m = g.L.Revision.machine in
    let ends = g.L.Revision.ends in
    let v = c.args.place.now.me.0 in
    let desk = c.args.desk.value in
    let k = c.args.of in
    let e = c.args.end in
    let b = g.L.Revision.by_join e in
    let told = c.requires.told in
    let hand = told.1.hand in
    let free = c.requires.free in
    let mine = c.requires.mine in
    let p = pass_on m ends told.0.seat v.seat k told.1.same.1 told.1.same.3
    (end_pass m ends b told.0.seat k e told.2) in
    let plan = c.requires.plan in
    let what = c.args.coming in
    let comes = c.requires.coming in
    let w = c.carry_out-desk.new.place.me.0 in
    let tally = c.carry_out-desk.result.1 in
    let entered = c.carry_out-desk.ensures.entered in
    let last = c.deref_mut-last.result.now in
    let is : last ≡ desk = c.deref_mut-last.ensures.value ∙ ap (λ x. x.value) c.carry_out-desk.ensures.same in
    let one = c.end.new.self in
    let listed = c.end.ensures.now ∙ ap (λ z. put_record z.records.list.items k (Over e)) is in
    let ended = subst (λ z. EndsOne z.records.queue one.queue k) is c.end.ensures.queue in
    let two = c.go_on-step.new.records in
    let step = c.go_on-step.result in
    let went = c.go_on-step.ensures in
    λ v0 h. on_says m ends v desk hand free mine b k e p what comes.0 comes.1 w tally plan entered one listed ended
    g.L.Revision.claimed g.L.Revision.stopped g.L.Revision.claimed_group g.L.Revision.stopped_group two v0
    c.put_home.new.place.me.0 h (ap (λ x. x.0) c.put_home.ensures.rests) step went
