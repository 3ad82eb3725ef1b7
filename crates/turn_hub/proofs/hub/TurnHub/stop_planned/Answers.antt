-- Answers of TurnHub::stop_planned: the revision has ended, and the entry of the joiner that came first is the last.
use Rattle.std.proofs.Common.{rules, ◌≡◌, ◌<◌, ◌++◌, ℕ, Bool, length, refl, sym, ap, ◌∙◌, subst, arith}
use Rattle.hub_core.specs.declared.status.Status.TheVariants.{Over}
use Rattle.hub_core.specs.declared.state.HubState.TheVariants.{Twice}
use Rattle.hub_core.specs.declared.desk.Desk.{Desk}
use Rattle.hub_core.specs.Chains.{EndsOne, IsWithin, chain_at}
use Rattle.hub_core.specs.Recorded.{put_record}
use Rattle.hub_core.specs.Rounds.{stamped}
use Rattle.hub_core.specs.Tally.{pairs, record_at, entered as entered_by}
use Rattle.turn_hub.specs.declared.answers.EndStep.TheVariants as ending
use Rattle.turn_hub.specs.declared.answers.JoinAnswer.TheVariants as join
use Rattle.turn_hub.specs.Answers.{EndedOn}
use Rattle.turn_hub.specs.declared.coming.Coming.TheVariants.{Stops}
use Rattle.turn_hub.specs.Plans.{end_deeds}
use Rattle.turn_hub.specs.Comings.{coming_deeds}
use Rattle.turn_hub.proofs.Finding.{pass_on}
use Rattle.turn_hub.proofs.Ends.{end_pass}
use Rattle.turn_hub.proofs.StopsOn.{can_stop_on, halt_count, halt_rests, halt_record, halt_within, halt_first, halt_taken, halt_hand, halt_says, retry_same}
use Rattle.turn_hub.proofs.hub.TurnHub.stop_planned.Goals as goal

pub halt_twice-desk-requires-clause-can : goal.halt_twice-desk-requires-clause-can
halt_twice-desk-requires-clause-can g c =
    let m = g.L.Revision.machine in
    let ends = g.L.Revision.ends in
    let v = c.args.place.now.me.0 in
    let desk = c.args.desk.value in
    let k = c.args.of in
    let e = c.args.end in
    let n = c.args.number in
    let b = g.L.Revision.by_join e in
    let told = c.requires.told in
    let hand = told.1.hand in
    let free = c.requires.free in
    let mine = c.requires.mine in
    let p = pass_on m ends told.0.seat v.seat k told.1.same.1 told.1.same.3
    (end_pass m ends b told.0.seat k e told.2) in
    let plan = c.requires.plan in
    let comes = c.requires.coming in
    can_stop_on m ends v desk hand free mine b k e p n comes plan

pub counted-requires : goal.counted-requires
counted-requires g c =
    let m = g.L.Revision.machine in
    let ends = g.L.Revision.ends in
    let v = c.args.place.now.me.0 in
    let desk = c.args.desk.value in
    let k = c.args.of in
    let e = c.args.end in
    let n = c.args.number in
    let b = g.L.Revision.by_join e in
    let told = c.requires.told in
    let hand = told.1.hand in
    let free = c.requires.free in
    let mine = c.requires.mine in
    let p = pass_on m ends told.0.seat v.seat k told.1.same.1 told.1.same.3
    (end_pass m ends b told.0.seat k e told.2) in
    let plan = c.requires.plan in
    let comes = c.requires.coming in
    let w = c.halt_twice-desk.new.place.me.0 in
    let tally = c.halt_twice-desk.result.1 in
    let shut = c.halt_twice-desk.ensures.shut in
    (halt_count m ends v desk hand free mine b k e p n comes w tally plan shut).0

pub end-requires-clause-out : goal.end-requires-clause-out
end-requires-clause-out g c =
    let m = g.L.Revision.machine in
    let ends = g.L.Revision.ends in
    let v = c.args.place.now.me.0 in
    let desk = c.args.desk.value in
    let k = c.args.of in
    let e = c.args.end in
    let n = c.args.number in
    let b = g.L.Revision.by_join e in
    let told = c.requires.told in
    let hand = told.1.hand in
    let free = c.requires.free in
    let mine = c.requires.mine in
    let p = pass_on m ends told.0.seat v.seat k told.1.same.1 told.1.same.3
    (end_pass m ends b told.0.seat k e told.2) in
    let plan = c.requires.plan in
    let comes = c.requires.coming in
    let w = c.halt_twice-desk.new.place.me.0 in
    let tally = c.halt_twice-desk.result.1 in
    let shut = c.halt_twice-desk.ensures.shut in
    let last = c.deref_mut-last.result.now in
    let is : last ≡ desk = c.deref_mut-last.ensures.value ∙ ap (λ x. x.value) c.halt_twice-desk.ensures.same in
    ap (λ z. record_at z.records.list.items k) is ∙ halt_record m ends v desk hand free mine b k e p n comes w tally
    plan shut

pub end-requires-clause-within : goal.end-requires-clause-within
end-requires-clause-within g c =
    let m = g.L.Revision.machine in
    let ends = g.L.Revision.ends in
    let v = c.args.place.now.me.0 in
    let desk = c.args.desk.value in
    let k = c.args.of in
    let e = c.args.end in
    let n = c.args.number in
    let b = g.L.Revision.by_join e in
    let told = c.requires.told in
    let hand = told.1.hand in
    let free = c.requires.free in
    let mine = c.requires.mine in
    let p = pass_on m ends told.0.seat v.seat k told.1.same.1 told.1.same.3
    (end_pass m ends b told.0.seat k e told.2) in
    let plan = c.requires.plan in
    let comes = c.requires.coming in
    let w = c.halt_twice-desk.new.place.me.0 in
    let tally = c.halt_twice-desk.result.1 in
    let shut = c.halt_twice-desk.ensures.shut in
    let last = c.deref_mut-last.result.now in
    let is : last ≡ desk = c.deref_mut-last.ensures.value ∙ ap (λ x. x.value) c.halt_twice-desk.ensures.same in
    subst (λ z. (k < length z.records.queue.waiters.items)
    × IsWithin (chain_at z.records.queue.waiters.items k) (length z.records.queue.links.items))
    (sym is) (halt_within m ends v desk hand free mine b k e p n comes w tally plan shut).1

pub end-requires-clause-some : goal.end-requires-clause-some
end-requires-clause-some g c =
    let m = g.L.Revision.machine in
    let ends = g.L.Revision.ends in
    let v = c.args.place.now.me.0 in
    let desk = c.args.desk.value in
    let k = c.args.of in
    let e = c.args.end in
    let n = c.args.number in
    let b = g.L.Revision.by_join e in
    let told = c.requires.told in
    let hand = told.1.hand in
    let free = c.requires.free in
    let mine = c.requires.mine in
    let p = pass_on m ends told.0.seat v.seat k told.1.same.1 told.1.same.3
    (end_pass m ends b told.0.seat k e told.2) in
    let plan = c.requires.plan in
    let comes = c.requires.coming in
    let w = c.halt_twice-desk.new.place.me.0 in
    let tally = c.halt_twice-desk.result.1 in
    let shut = c.halt_twice-desk.ensures.shut in
    let last = c.deref_mut-last.result.now in
    let is : last ≡ desk = c.deref_mut-last.ensures.value ∙ ap (λ x. x.value) c.halt_twice-desk.ensures.same in
    subst (λ z. 0 < z.records.queue.unfinished) (sym is) (halt_within m ends v desk hand free mine b k e p n comes w
    tally plan shut).2

pub take_first-next-requires-clause-within : goal.take_first-next-requires-clause-within
take_first-next-requires-clause-within g c =
    let m = g.L.Revision.machine in
    let ends = g.L.Revision.ends in
    let v = c.args.place.now.me.0 in
    let desk = c.args.desk.value in
    let k = c.args.of in
    let e = c.args.end in
    let n = c.args.number in
    let b = g.L.Revision.by_join e in
    let told = c.requires.told in
    let hand = told.1.hand in
    let free = c.requires.free in
    let mine = c.requires.mine in
    let p = pass_on m ends told.0.seat v.seat k told.1.same.1 told.1.same.3
    (end_pass m ends b told.0.seat k e told.2) in
    let plan = c.requires.plan in
    let comes = c.requires.coming in
    let w = c.halt_twice-desk.new.place.me.0 in
    let tally = c.halt_twice-desk.result.1 in
    let shut = c.halt_twice-desk.ensures.shut in
    let last = c.deref_mut-last.result.now in
    let is : last ≡ desk = c.deref_mut-last.ensures.value ∙ ap (λ x. x.value) c.halt_twice-desk.ensures.same in
    let one = c.end.new.self in
    let listed = c.end.ensures.now ∙ ap (λ z. put_record z.records.list.items k (Over e)) is in
    let ended = subst (λ z. EndsOne z.records.queue one.queue k) is c.end.ensures.queue in
    (halt_first m ends v desk hand free mine b k e p n comes w tally plan shut one listed ended).0

pub take_first-next-requires-clause-first : goal.take_first-next-requires-clause-first
take_first-next-requires-clause-first g c =
    let m = g.L.Revision.machine in
    let ends = g.L.Revision.ends in
    let v = c.args.place.now.me.0 in
    let desk = c.args.desk.value in
    let k = c.args.of in
    let e = c.args.end in
    let n = c.args.number in
    let b = g.L.Revision.by_join e in
    let told = c.requires.told in
    let hand = told.1.hand in
    let free = c.requires.free in
    let mine = c.requires.mine in
    let p = pass_on m ends told.0.seat v.seat k told.1.same.1 told.1.same.3
    (end_pass m ends b told.0.seat k e told.2) in
    let plan = c.requires.plan in
    let comes = c.requires.coming in
    let w = c.halt_twice-desk.new.place.me.0 in
    let tally = c.halt_twice-desk.result.1 in
    let shut = c.halt_twice-desk.ensures.shut in
    let last = c.deref_mut-last.result.now in
    let is : last ≡ desk = c.deref_mut-last.ensures.value ∙ ap (λ x. x.value) c.halt_twice-desk.ensures.same in
    let one = c.end.new.self in
    let listed = c.end.ensures.now ∙ ap (λ z. put_record z.records.list.items k (Over e)) is in
    let ended = subst (λ z. EndsOne z.records.queue one.queue k) is c.end.ensures.queue in
    (halt_first m ends v desk hand free mine b k e p n comes w tally plan shut one listed ended).1

pub put_home-requires-clause-hand : goal.put_home-requires-clause-hand
put_home-requires-clause-hand g c =
    let m = g.L.Revision.machine in
    let ends = g.L.Revision.ends in
    let v = c.args.place.now.me.0 in
    let desk = c.args.desk.value in
    let k = c.args.of in
    let e = c.args.end in
    let n = c.args.number in
    let b = g.L.Revision.by_join e in
    let told = c.requires.told in
    let hand = told.1.hand in
    let free = c.requires.free in
    let mine = c.requires.mine in
    let p = pass_on m ends told.0.seat v.seat k told.1.same.1 told.1.same.3
    (end_pass m ends b told.0.seat k e told.2) in
    let plan = c.requires.plan in
    let comes = c.requires.coming in
    let w = c.halt_twice-desk.new.place.me.0 in
    let tally = c.halt_twice-desk.result.1 in
    let shut = c.halt_twice-desk.ensures.shut in
    let last = c.deref_mut-last.result.now in
    let is : last ≡ desk = c.deref_mut-last.ensures.value ∙ ap (λ x. x.value) c.halt_twice-desk.ensures.same in
    let one = c.end.new.self in
    let listed = c.end.ensures.now ∙ ap (λ z. put_record z.records.list.items k (Over e)) is in
    let ended = subst (λ z. EndsOne z.records.queue one.queue k) is c.end.ensures.queue in
    let two = c.take_first-next.new.records in
    let next = c.take_first-next.result in
    let taken = c.take_first-next.ensures in
    let noted = c.note_end_on.ensures in
    let by = c.is_by_join-by_join.ensures in
    let by_count = c.counted.ensures ∙ (halt_count m ends v desk hand free mine b k e p n comes w tally plan shut).1 in
    halt_hand m ends v desk hand free mine b k e p n comes w tally plan shut one listed ended two next taken
    (record last {
      journal = c.note_end_on.new.journal;
      records = two;
      state = Twice;
    }) refl
    (noted.entries
    ∙ ap (λ (z : Desk _ _ _ × Bool × ℕ). pairs z.0.journal.entries.items
    ++ stamped z.2 (entered_by (end_deeds z.1 k ++ coming_deeds (Stops n))))
    (λ i. (is i, by i, by_count i)))
    (noted.limit ∙ ap (λ z. z.journal.limit) is) (ap (λ z. z.lent) is) (ap (λ z. z.strays) is) refl

pub empty-requires : goal.empty-requires
empty-requires g c =
    let m = g.L.Revision.machine in
    let ends = g.L.Revision.ends in
    let v = c.args.place.now.me.0 in
    let desk = c.args.desk.value in
    let k = c.args.of in
    let e = c.args.end in
    let n = c.args.number in
    let b = g.L.Revision.by_join e in
    let told = c.requires.told in
    let hand = told.1.hand in
    let free = c.requires.free in
    let mine = c.requires.mine in
    let p = pass_on m ends told.0.seat v.seat k told.1.same.1 told.1.same.3
    (end_pass m ends b told.0.seat k e told.2) in
    let plan = c.requires.plan in
    let comes = c.requires.coming in
    let w = c.halt_twice-desk.new.place.me.0 in
    let tally = c.halt_twice-desk.result.1 in
    let shut = c.halt_twice-desk.ensures.shut in
    let last = c.deref_mut-last.result.now in
    let is : last ≡ desk = c.deref_mut-last.ensures.value ∙ ap (λ x. x.value) c.halt_twice-desk.ensures.same in
    let one = c.end.new.self in
    let listed = c.end.ensures.now ∙ ap (λ z. put_record z.records.list.items k (Over e)) is in
    let ended = subst (λ z. EndsOne z.records.queue one.queue k) is c.end.ensures.queue in
    let two = c.take_first-next.new.records in
    let next = c.take_first-next.result in
    let taken = c.take_first-next.ensures in
    let run = halt_taken m ends v desk hand free mine b k e p n comes w tally plan shut one listed ended two next
    taken in search rules

pub returns-clause-rests : goal.returns-clause-rests
returns-clause-rests g c =
    let m = g.L.Revision.machine in
    let ends = g.L.Revision.ends in
    let v = c.args.place.now.me.0 in
    let desk = c.args.desk.value in
    let k = c.args.of in
    let e = c.args.end in
    let n = c.args.number in
    let b = g.L.Revision.by_join e in
    let told = c.requires.told in
    let hand = told.1.hand in
    let free = c.requires.free in
    let mine = c.requires.mine in
    let p = pass_on m ends told.0.seat v.seat k told.1.same.1 told.1.same.3
    (end_pass m ends b told.0.seat k e told.2) in
    let plan = c.requires.plan in
    let comes = c.requires.coming in
    let w = c.halt_twice-desk.new.place.me.0 in
    let tally = c.halt_twice-desk.result.1 in
    let shut = c.halt_twice-desk.ensures.shut in
    let at = c.put_home.ensures.rests in
    let r = halt_rests m ends v desk hand free mine b k e p n comes w tally plan shut c.put_home.new.place.me.0 (ap
    (λ x. x.0) at) in
    let limit = r.3 in
    (ap (λ x. x.0.seat.has) at, ap (λ x. x.1) at, r.0, r.1, r.2, omega arith)

pub returns-clause-mine : goal.returns-clause-mine
returns-clause-mine g c =
    let m = g.L.Revision.machine in
    let ends = g.L.Revision.ends in
    let v = c.args.place.now.me.0 in
    let desk = c.args.desk.value in
    let k = c.args.of in
    let e = c.args.end in
    let n = c.args.number in
    let b = g.L.Revision.by_join e in
    let told = c.requires.told in
    let hand = told.1.hand in
    let free = c.requires.free in
    let mine = c.requires.mine in
    let p = pass_on m ends told.0.seat v.seat k told.1.same.1 told.1.same.3
    (end_pass m ends b told.0.seat k e told.2) in
    let plan = c.requires.plan in
    let comes = c.requires.coming in
    let w = c.halt_twice-desk.new.place.me.0 in
    let tally = c.halt_twice-desk.result.1 in
    let shut = c.halt_twice-desk.ensures.shut in
    (halt_rests m ends v desk hand free mine b k e p n comes w tally plan shut c.put_home.new.place.me.0 (ap
    (λ x. x.0) c.put_home.ensures.rests)).4 ∙ mine

pub returns-clause-answer : goal.returns-clause-answer
returns-clause-answer g c =
    let m = g.L.Revision.machine in
    let ends = g.L.Revision.ends in
    let v = c.args.place.now.me.0 in
    let desk = c.args.desk.value in
    let k = c.args.of in
    let e = c.args.end in
    let n = c.args.number in
    let b = g.L.Revision.by_join e in
    let told = c.requires.told in
    let hand = told.1.hand in
    let free = c.requires.free in
    let mine = c.requires.mine in
    let p = pass_on m ends told.0.seat v.seat k told.1.same.1 told.1.same.3
    (end_pass m ends b told.0.seat k e told.2) in
    let plan = c.requires.plan in
    let comes = c.requires.coming in
    let w = c.halt_twice-desk.new.place.me.0 in
    let tally = c.halt_twice-desk.result.1 in
    let shut = c.halt_twice-desk.ensures.shut in
    let last = c.deref_mut-last.result.now in
    let is : last ≡ desk = c.deref_mut-last.ensures.value ∙ ap (λ x. x.value) c.halt_twice-desk.ensures.same in
    let one = c.end.new.self in
    let listed = c.end.ensures.now ∙ ap (λ z. put_record z.records.list.items k (Over e)) is in
    let ended = subst (λ z. EndsOne z.records.queue one.queue k) is c.end.ensures.queue in
    let two = c.take_first-next.new.records in
    let next = c.take_first-next.result in
    let taken = c.take_first-next.ensures in
    let same = retry_same next c.in-Retry.number n c.in-Retry.at comes.1.0 c.in-Retry.is
    (halt_taken m ends v desk hand free mine b k e p n comes w tally plan shut one listed ended two next taken) in
    λ v0 h. subst
    (λ (z : ℕ × _). EndedOn m ends g.L.Revision.claimed g.L.Revision.stopped g.L.Revision.claimed_group
    g.L.Revision.stopped_group v0.seat c.put_home.new.place.me.0.seat k e b (ending.Came z.0 (join.Twice z.1))) same
    (halt_says m ends v desk hand free mine b k e p n comes w tally plan shut one listed ended two next taken
    g.L.Revision.claimed g.L.Revision.stopped g.L.Revision.claimed_group g.L.Revision.stopped_group v0
    c.put_home.new.place.me.0 h (ap (λ x. x.0) c.put_home.ensures.rests))
