-- Answers of TurnHub::seek_in: where no seat keeps a child, a number without a record was joined, or is not born.
use Rattle.std.proofs.Common.{rules, ◌≡◌, ◌<◌, ◌≤◌, ◌∷◌, None, length, sym, ap, ◌∙◌, arith}
use Rattle.hub_core.specs.Tally.{record_at}
use Rattle.turn_hub.proofs.Seeks.{number_gone, number_open}
use Rattle.turn_hub.proofs.hub.TurnHub.seek_in.Goals as goal

pub twice_in-requires-clause-told : goal.twice_in-requires-clause-told
twice_in-requires-clause-told g c =
    let m = g.L.Revision.machine in
    let ends = g.L.Revision.ends in
    let v = c.args.place.now.me.0 in
    let old = c.args.desk.value in
    let on = m.on c.args.at in
    let told = c.requires.told in
    let desk = c.count_in-desk.result.0.value in
    let w = c.count_in-desk.new.place.me.0 in
    let same = c.count_in-desk.ensures.same in
    let view = c.count_in-desk.ensures.view in
    let h1 = c.count_in-desk.ensures.told told.0 told.1 in
    let zero : old.lent ≡ 0 = search rules in
    let lent : desk.lent ≡ 0 = same.lent ∙ zero in
    let many = c.count_in-desk.ensures.counted h1.hand in
    let none : record_at desk.records.list.items on ≡ None =
    ap (λ z. record_at z.list.items on) same.records ∙ c.requires.none in
    let less : c.on.result < c.count_in-desk.result.1 = search rules in
    let is = c.on.ensures in
    let below : on < length h1.hand.slots = omega arith in
    (told.0, h1, told.2, number_gone m ends w desk h1.hand on lent none below)

pub twice_in-requires-clause-free : goal.twice_in-requires-clause-free
twice_in-requires-clause-free g c =
    let m = g.L.Revision.machine in
    let ends = g.L.Revision.ends in
    let v = c.args.place.now.me.0 in
    let old = c.args.desk.value in
    let on = m.on c.args.at in
    let told = c.requires.told in
    let desk = c.count_in-desk.result.0.value in
    let w = c.count_in-desk.new.place.me.0 in
    let same = c.count_in-desk.ensures.same in
    let view = c.count_in-desk.ensures.view in
    let h1 = c.count_in-desk.ensures.told told.0 told.1 in
    same.state ∙ c.requires.free

pub stray_in-requires-clause-told : goal.stray_in-requires-clause-told
stray_in-requires-clause-told g c =
    let m = g.L.Revision.machine in
    let ends = g.L.Revision.ends in
    let v = c.args.place.now.me.0 in
    let old = c.args.desk.value in
    let on = m.on c.args.at in
    let told = c.requires.told in
    let desk = c.count_in-desk.result.0.value in
    let w = c.count_in-desk.new.place.me.0 in
    let same = c.count_in-desk.ensures.same in
    let view = c.count_in-desk.ensures.view in
    let h1 = c.count_in-desk.ensures.told told.0 told.1 in
    let zero : old.lent ≡ 0 = search rules in
    let lent : desk.lent ≡ 0 = same.lent ∙ zero in
    let many = c.count_in-desk.ensures.counted h1.hand in
    let more : c.count_in-desk.result.1 ≤ c.on.result = search rules in
    let is = c.on.ensures in
    let above : length h1.hand.slots ≤ on = omega arith in
    (told.0, h1, told.2, number_open m ends w desk h1.hand on lent above)

pub stray_in-requires-clause-free : goal.stray_in-requires-clause-free
stray_in-requires-clause-free g c =
    let m = g.L.Revision.machine in
    let ends = g.L.Revision.ends in
    let v = c.args.place.now.me.0 in
    let old = c.args.desk.value in
    let on = m.on c.args.at in
    let told = c.requires.told in
    let desk = c.count_in-desk.result.0.value in
    let w = c.count_in-desk.new.place.me.0 in
    let same = c.count_in-desk.ensures.same in
    let view = c.count_in-desk.ensures.view in
    let h1 = c.count_in-desk.ensures.told told.0 told.1 in
    same.state ∙ c.requires.free

pub stray_in-requires-clause-mine : goal.stray_in-requires-clause-mine
stray_in-requires-clause-mine g c =
    let m = g.L.Revision.machine in
    let ends = g.L.Revision.ends in
    let v = c.args.place.now.me.0 in
    let old = c.args.desk.value in
    let on = m.on c.args.at in
    let told = c.requires.told in
    let desk = c.count_in-desk.result.0.value in
    let w = c.count_in-desk.new.place.me.0 in
    let same = c.count_in-desk.ensures.same in
    let view = c.count_in-desk.ensures.view in
    let h1 = c.count_in-desk.ensures.told told.0 told.1 in
    view.0 ∙ c.requires.mine

pub stray_in-requires-clause-group : goal.stray_in-requires-clause-group
stray_in-requires-clause-group g c =
    let m = g.L.Revision.machine in
    let ends = g.L.Revision.ends in
    let v = c.args.place.now.me.0 in
    let old = c.args.desk.value in
    let on = m.on c.args.at in
    let told = c.requires.told in
    let desk = c.count_in-desk.result.0.value in
    let w = c.count_in-desk.new.place.me.0 in
    let same = c.count_in-desk.ensures.same in
    let view = c.count_in-desk.ensures.view in
    let h1 = c.count_in-desk.ensures.told told.0 told.1 in
    c.requires.group ∙ (told.1.same.2 ∙ sym h1.same.2)

pub stray_in-requires-clause-lent : goal.stray_in-requires-clause-lent
stray_in-requires-clause-lent g c =
    let m = g.L.Revision.machine in
    let ends = g.L.Revision.ends in
    let v = c.args.place.now.me.0 in
    let old = c.args.desk.value in
    let on = m.on c.args.at in
    let told = c.requires.told in
    let desk = c.count_in-desk.result.0.value in
    let w = c.count_in-desk.new.place.me.0 in
    let same = c.count_in-desk.ensures.same in
    let view = c.count_in-desk.ensures.view in
    let h1 = c.count_in-desk.ensures.told told.0 told.1 in
    let zero : old.lent ≡ 0 = search rules in
    let lent : desk.lent ≡ 0 = same.lent ∙ zero in
    let many = c.count_in-desk.ensures.counted h1.hand in
    lent

pub returns-then-on-many-clause-came : goal.returns-then-on-many-clause-came
returns-then-on-many-clause-came g c =
    let m = g.L.Revision.machine in
    let ends = g.L.Revision.ends in
    let v = c.args.place.now.me.0 in
    let old = c.args.desk.value in
    let on = m.on c.args.at in
    let told = c.requires.told in
    let desk = c.count_in-desk.result.0.value in
    let w = c.count_in-desk.new.place.me.0 in
    let same = c.count_in-desk.ensures.same in
    let view = c.count_in-desk.ensures.view in
    let h1 = c.count_in-desk.ensures.told told.0 told.1 in
    let r = c.twice_in.ensures.rests in
    let limit = r.5 in
    let more = view.1 in (
      (
        r.0,
        r.1,
        r.2 ∙ (h1.same.0 ∙ sym told.1.same.0),
        r.3 ∙ ap (λ l. c.twice_in.new.place.me.0.seat.log ∷ l) view.2,
        r.4 ∙ (h1.same.5 ∙ sym told.1.same.5),
        omega arith,
      ),
      c.twice_in.ensures.mine ∙ (view.0 ∙ c.requires.mine),
      λ v0 h. c.twice_in.ensures.answer v0 (c.count_in-desk.ensures.told v0 h),
    )

pub returns-clause-came : goal.returns-clause-came
returns-clause-came g c =
    let m = g.L.Revision.machine in
    let ends = g.L.Revision.ends in
    let v = c.args.place.now.me.0 in
    let old = c.args.desk.value in
    let on = m.on c.args.at in
    let told = c.requires.told in
    let desk = c.count_in-desk.result.0.value in
    let w = c.count_in-desk.new.place.me.0 in
    let same = c.count_in-desk.ensures.same in
    let view = c.count_in-desk.ensures.view in
    let h1 = c.count_in-desk.ensures.told told.0 told.1 in
    let r = c.stray_in.ensures.rests in
    let limit = r.5 in
    let more = view.1 in (
      (
        r.0,
        r.1,
        r.2 ∙ (h1.same.0 ∙ sym told.1.same.0),
        r.3 ∙ ap (λ l. c.stray_in.new.place.me.0.seat.log ∷ l) view.2,
        r.4 ∙ (h1.same.5 ∙ sym told.1.same.5),
        omega arith,
      ),
      c.stray_in.ensures.mine,
      λ v0 h. c.stray_in.ensures.answer v0 (c.count_in-desk.ensures.told v0 h),
    )
