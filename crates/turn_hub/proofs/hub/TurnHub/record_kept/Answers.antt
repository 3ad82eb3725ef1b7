-- Answers of TurnHub::record_kept: the kept child has no record, and gets one at a moment of the turn.
use Rattle.std.proofs.Common.{rules, ◌≡◌, ◌<◌, ◌+◌, ◌-◌, [], ◌∷◌, None, Some, length, option_to_list, ap, ◌∙◌, arith}
use Rattle.hub_core.specs.declared.status.Status.TheVariants.{Out}
use Rattle.hub_core.specs.declared.state.HubState.TheVariants.{All}
use Rattle.hub_core.specs.Recorded.{put_record}
use Rattle.hub_core.specs.Tally.{record_at}
use Rattle.turn_hub.specs.Plans.{HasPlan}
use Rattle.turn_hub.proofs.Lending.{hand_longer, in_longer, can_lend, lend_mine, lend_none, lend_some, lend_hand, lend_in}
use Rattle.turn_hub.proofs.hub.TurnHub.record_kept.Goals as goal

pub returns-then-not-reach-clause-hand : goal.returns-then-not-reach-clause-hand
returns-then-not-reach-clause-hand g c =
    let m = g.L.Revision.machine in
    let ends = g.L.Revision.ends in
    let v = c.args.place.now.me.0 in
    let old = c.args.desk.value in
    let held = c.deref_mut-held.result.now in
    let value = c.deref_mut-held.ensures.value in
    let longer = c.reach.ensures.longer in
    hand_longer m ends v old held c.reach.new.self held.plan c.requires.hand value longer

pub returns-then-not-reach-clause-told : goal.returns-then-not-reach-clause-told
returns-then-not-reach-clause-told g c =
    let m = g.L.Revision.machine in
    let ends = g.L.Revision.ends in
    let v = c.args.place.now.me.0 in
    let old = c.args.desk.value in
    let held = c.deref_mut-held.result.now in
    let value = c.deref_mut-held.ensures.value in
    let longer = c.reach.ensures.longer in
    λ v0 h. in_longer m ends v0 v old held c.reach.new.self held.plan h value longer

pub carry_out-desk-requires-clause-can : goal.carry_out-desk-requires-clause-can
carry_out-desk-requires-clause-can g c =
    let m = g.L.Revision.machine in
    let ends = g.L.Revision.ends in
    let v = c.args.place.now.me.0 in
    let old = c.args.desk.value in
    let held = c.deref_mut-held.result.now in
    let value = c.deref_mut-held.ensures.value in
    let longer = c.reach.ensures.longer in
    let n = c.in-Some.number in
    let desk = record held { records = c.reach.new.self; plan = c.plan_record.new.plan } in
    let hand = hand_longer m ends v old held c.reach.new.self c.plan_record.new.plan c.requires.hand value longer in
    let free : desk.state ≡ All = ap (λ x. x.state) value ∙ c.requires.free in
    let e = c.plan_record.ensures in
    let plan : HasPlan desk [] (Some n) None = e in
    let mine : v.mine ≡ n ∷ [] = c.requires.mine ∙ ap option_to_list c.in-Some.is in
    can_lend m ends v desk hand free n mine plan

pub record_kept-requires-clause-none : goal.record_kept-requires-clause-none
record_kept-requires-clause-none g c =
    let m = g.L.Revision.machine in
    let ends = g.L.Revision.ends in
    let v = c.args.place.now.me.0 in
    let old = c.args.desk.value in
    let held = c.deref_mut-held.result.now in
    let value = c.deref_mut-held.ensures.value in
    let longer = c.reach.ensures.longer in
    let n = c.in-Some.number in
    let desk = record held { records = c.reach.new.self; plan = c.plan_record.new.plan } in
    let hand = hand_longer m ends v old held c.reach.new.self c.plan_record.new.plan c.requires.hand value longer in
    let free : desk.state ≡ All = ap (λ x. x.state) value ∙ c.requires.free in
    let e = c.plan_record.ensures in
    let plan : HasPlan desk [] (Some n) None = e in
    let mine : v.mine ≡ n ∷ [] = c.requires.mine ∙ ap option_to_list c.in-Some.is in
    let w = c.carry_out-desk.new.place.me.0 in
    let count = c.carry_out-desk.result.1 in
    let entered = c.carry_out-desk.ensures.entered in
    let is : c.deref_mut-last.result.now ≡ desk =
    c.deref_mut-last.ensures.value ∙ ap (λ x. x.value) c.carry_out-desk.ensures.same in
    ap (λ x. record_at x.records.list.items n) is ∙ lend_none m ends v desk hand free n mine w count plan entered

pub overflow_sub-last : goal.overflow_sub-last
overflow_sub-last g c =
    let m = g.L.Revision.machine in
    let ends = g.L.Revision.ends in
    let v = c.args.place.now.me.0 in
    let old = c.args.desk.value in
    let held = c.deref_mut-held.result.now in
    let value = c.deref_mut-held.ensures.value in
    let longer = c.reach.ensures.longer in
    let n = c.in-Some.number in
    let desk = record held { records = c.reach.new.self; plan = c.plan_record.new.plan } in
    let hand = hand_longer m ends v old held c.reach.new.self c.plan_record.new.plan c.requires.hand value longer in
    let free : desk.state ≡ All = ap (λ x. x.state) value ∙ c.requires.free in
    let e = c.plan_record.ensures in
    let plan : HasPlan desk [] (Some n) None = e in
    let mine : v.mine ≡ n ∷ [] = c.requires.mine ∙ ap option_to_list c.in-Some.is in
    let w = c.carry_out-desk.new.place.me.0 in
    let count = c.carry_out-desk.result.1 in
    let entered = c.carry_out-desk.ensures.entered in
    let is : c.deref_mut-last.result.now ≡ desk =
    c.deref_mut-last.ensures.value ∙ ap (λ x. x.value) c.carry_out-desk.ensures.same in
    let some = lend_some m ends v desk hand free n mine w count plan entered in
    let lent = ap (λ x. x.lent) is in
    omega arith

pub returns-clause-mine : goal.returns-clause-mine
returns-clause-mine g c =
    let m = g.L.Revision.machine in
    let ends = g.L.Revision.ends in
    let v = c.args.place.now.me.0 in
    let old = c.args.desk.value in
    let held = c.deref_mut-held.result.now in
    let value = c.deref_mut-held.ensures.value in
    let longer = c.reach.ensures.longer in
    let n = c.in-Some.number in
    let desk = record held { records = c.reach.new.self; plan = c.plan_record.new.plan } in
    let hand = hand_longer m ends v old held c.reach.new.self c.plan_record.new.plan c.requires.hand value longer in
    let free : desk.state ≡ All = ap (λ x. x.state) value ∙ c.requires.free in
    let e = c.plan_record.ensures in
    let plan : HasPlan desk [] (Some n) None = e in
    let mine : v.mine ≡ n ∷ [] = c.requires.mine ∙ ap option_to_list c.in-Some.is in
    let w = c.carry_out-desk.new.place.me.0 in
    let count = c.carry_out-desk.result.1 in
    let entered = c.carry_out-desk.ensures.entered in
    let is : c.deref_mut-last.result.now ≡ desk =
    c.deref_mut-last.ensures.value ∙ ap (λ x. x.value) c.carry_out-desk.ensures.same in
    lend_mine m ends v desk hand free n mine w count plan entered

pub returns-clause-hand : goal.returns-clause-hand
returns-clause-hand g c =
    let m = g.L.Revision.machine in
    let ends = g.L.Revision.ends in
    let v = c.args.place.now.me.0 in
    let old = c.args.desk.value in
    let held = c.deref_mut-held.result.now in
    let value = c.deref_mut-held.ensures.value in
    let longer = c.reach.ensures.longer in
    let n = c.in-Some.number in
    let desk = record held { records = c.reach.new.self; plan = c.plan_record.new.plan } in
    let hand = hand_longer m ends v old held c.reach.new.self c.plan_record.new.plan c.requires.hand value longer in
    let free : desk.state ≡ All = ap (λ x. x.state) value ∙ c.requires.free in
    let e = c.plan_record.ensures in
    let plan : HasPlan desk [] (Some n) None = e in
    let mine : v.mine ≡ n ∷ [] = c.requires.mine ∙ ap option_to_list c.in-Some.is in
    let w = c.carry_out-desk.new.place.me.0 in
    let count = c.carry_out-desk.result.1 in
    let entered = c.carry_out-desk.ensures.entered in
    let is : c.deref_mut-last.result.now ≡ desk =
    c.deref_mut-last.ensures.value ∙ ap (λ x. x.value) c.carry_out-desk.ensures.same in
    let last = record c.deref_mut-last.result.now {
      records = c.record_kept.new.self;
      lent =
          c.deref_mut-last.result.now.lent - 1;
    } in
    let within : n < length desk.records.list.items = c.reach.ensures.reach (search rules) in
    let some = lend_some m ends v desk hand free n mine w count plan entered in
    let lent = ap (λ x. x.lent) is in
    let less : last.lent + 1 ≡ desk.lent = omega arith in
    let records = c.record_kept.ensures.now ∙ ap (λ x. put_record x.records.list.items n Out) is in
    let queue = c.record_kept.ensures.queue ∙ ap (λ x. x.records.queue) is in
    lend_hand m ends v desk hand free n mine w count plan entered last within records queue (ap (λ x. x.journal) is)
    (ap (λ x. x.state) is) less (ap (λ x. x.strays) is)

pub returns-clause-told : goal.returns-clause-told
returns-clause-told g c =
    let m = g.L.Revision.machine in
    let ends = g.L.Revision.ends in
    let v = c.args.place.now.me.0 in
    let old = c.args.desk.value in
    let held = c.deref_mut-held.result.now in
    let value = c.deref_mut-held.ensures.value in
    let longer = c.reach.ensures.longer in
    let n = c.in-Some.number in
    let desk = record held { records = c.reach.new.self; plan = c.plan_record.new.plan } in
    let hand = hand_longer m ends v old held c.reach.new.self c.plan_record.new.plan c.requires.hand value longer in
    let free : desk.state ≡ All = ap (λ x. x.state) value ∙ c.requires.free in
    let e = c.plan_record.ensures in
    let plan : HasPlan desk [] (Some n) None = e in
    let mine : v.mine ≡ n ∷ [] = c.requires.mine ∙ ap option_to_list c.in-Some.is in
    let w = c.carry_out-desk.new.place.me.0 in
    let count = c.carry_out-desk.result.1 in
    let entered = c.carry_out-desk.ensures.entered in
    let is : c.deref_mut-last.result.now ≡ desk =
    c.deref_mut-last.ensures.value ∙ ap (λ x. x.value) c.carry_out-desk.ensures.same in
    let last = record c.deref_mut-last.result.now {
      records = c.record_kept.new.self;
      lent =
          c.deref_mut-last.result.now.lent - 1;
    } in
    let within : n < length desk.records.list.items = c.reach.ensures.reach (search rules) in
    let some = lend_some m ends v desk hand free n mine w count plan entered in
    let lent = ap (λ x. x.lent) is in
    let less : last.lent + 1 ≡ desk.lent = omega arith in
    let records = c.record_kept.ensures.now ∙ ap (λ x. put_record x.records.list.items n Out) is in
    let queue = c.record_kept.ensures.queue ∙ ap (λ x. x.records.queue) is in
    λ v0 h. lend_in m ends v desk hand free n mine w count plan entered last within records queue (ap (λ x.
    x.journal) is) (ap (λ x. x.state) is) less (ap (λ x. x.strays) is) v0
    (in_longer m ends v0 v old held c.reach.new.self c.plan_record.new.plan h value longer)
