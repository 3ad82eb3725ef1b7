-- Answers of TurnHub::stray_on: no seat keeps a child, so the joinee is not born, and has not ended.
use Rattle.std.proofs.Common.{rules, ◌≡◌, ◌<◌, true, length, refl, sym, ap, ◌∙◌, subst}
use Rattle.hub_core.specs.declared.desk.Desk.{Desk}
use Rattle.turn_hub.specs.Turns.{IsIn}
use Rattle.turn_hub.specs.Joinings.{IsOpenIn}
use Rattle.turn_hub.proofs.Lending.{hand_longer, in_longer}
use Rattle.turn_hub.proofs.Strays.{in_stray}
use Rattle.turn_hub.proofs.hub.TurnHub.stray_on.Goals as goal

pub reach_waits-requires : goal.reach_waits-requires
reach_waits-requires g c =
    let m = g.L.Revision.machine in
    let ends = g.L.Revision.ends in
    let v = c.args.place.now.me.0 in
    let old = c.args.desk.value in
    let held = c.deref_mut-held.result.now in
    let value = c.deref_mut-held.ensures.value in
    let a = c.args.at in
    let told = c.requires.told in
    let lent : held.lent ≡ 0 = ap (λ x. x.lent) value ∙ c.requires.lent in
    let at = subst (λ (x : Desk _ _ _). (h : IsIn m ends told.0 v x) × IsOpenIn m ends v h.hand.slots (m.on a))
    (sym value) (told.1, told.3) in
    record { queue = (at.0.hand.queued.links, at.0.hand.queued.reach) }

pub wait_on-requires-clause-told : goal.wait_on-requires-clause-told
wait_on-requires-clause-told g c =
    let m = g.L.Revision.machine in
    let ends = g.L.Revision.ends in
    let v = c.args.place.now.me.0 in
    let old = c.args.desk.value in
    let held = c.deref_mut-held.result.now in
    let value = c.deref_mut-held.ensures.value in
    let a = c.args.at in
    let told = c.requires.told in
    let lent : held.lent ≡ 0 = ap (λ x. x.lent) value ∙ c.requires.lent in
    let records = c.reach_waits.new.records in
    let longer = c.reach_waits.ensures.longer in
    let at = subst (λ (x : Desk _ _ _). (h : IsIn m ends told.0 v x) × IsOpenIn m ends v h.hand.slots (m.on a))
    (sym value) (told.1, told.3) in
    let both = in_stray m ends told.0 v held records at.0 longer lent in
    (told.0, both.0, told.2, subst (λ s. IsOpenIn m ends v s (m.on a)) (sym both.1) at.1)

pub wait_on-requires-clause-free : goal.wait_on-requires-clause-free
wait_on-requires-clause-free g c =
    let m = g.L.Revision.machine in
    let ends = g.L.Revision.ends in
    let v = c.args.place.now.me.0 in
    let old = c.args.desk.value in
    let held = c.deref_mut-held.result.now in
    let value = c.deref_mut-held.ensures.value in
    let a = c.args.at in
    let told = c.requires.told in
    let lent : held.lent ≡ 0 = ap (λ x. x.lent) value ∙ c.requires.lent in
    let records = c.reach_waits.new.records in
    let longer = c.reach_waits.ensures.longer in
    let at = subst (λ (x : Desk _ _ _). (h : IsIn m ends told.0 v x) × IsOpenIn m ends v h.hand.slots (m.on a))
    (sym value) (told.1, told.3) in
    ap (λ x. x.state) value ∙ c.requires.free

pub wait_on-requires-clause-tracked : goal.wait_on-requires-clause-tracked
wait_on-requires-clause-tracked g c =
    let m = g.L.Revision.machine in
    let ends = g.L.Revision.ends in
    let v = c.args.place.now.me.0 in
    let old = c.args.desk.value in
    let held = c.deref_mut-held.result.now in
    let value = c.deref_mut-held.ensures.value in
    let a = c.args.at in
    let told = c.requires.told in
    let lent : held.lent ≡ 0 = ap (λ x. x.lent) value ∙ c.requires.lent in
    let records = c.reach_waits.new.records in
    let longer = c.reach_waits.ensures.longer in
    let at = subst (λ (x : Desk _ _ _). (h : IsIn m ends told.0 v x) × IsOpenIn m ends v h.hand.slots (m.on a))
    (sym value) (told.1, told.3) in
    λ q. absurd cc

pub wait_on-requires-clause-within : goal.wait_on-requires-clause-within
wait_on-requires-clause-within g c =
    let m = g.L.Revision.machine in
    let ends = g.L.Revision.ends in
    let v = c.args.place.now.me.0 in
    let old = c.args.desk.value in
    let held = c.deref_mut-held.result.now in
    let value = c.deref_mut-held.ensures.value in
    let a = c.args.at in
    let told = c.requires.told in
    let lent : held.lent ≡ 0 = ap (λ x. x.lent) value ∙ c.requires.lent in
    let records = c.reach_waits.new.records in
    let longer = c.reach_waits.ensures.longer in
    let at = subst (λ (x : Desk _ _ _). (h : IsIn m ends told.0 v x) × IsOpenIn m ends v h.hand.slots (m.on a))
    (sym value) (told.1, told.3) in
    let made : c.reach_waits.result ≡ true = search rules in
    subst (λ n. n < length records.queue.waiters.items) c.on-on.ensures (c.reach_waits.ensures.reach made)

pub returns-clause-answer : goal.returns-clause-answer
returns-clause-answer g c =
    let m = g.L.Revision.machine in
    let ends = g.L.Revision.ends in
    let v = c.args.place.now.me.0 in
    let old = c.args.desk.value in
    let held = c.deref_mut-held.result.now in
    let value = c.deref_mut-held.ensures.value in
    let a = c.args.at in
    let told = c.requires.told in
    let lent : held.lent ≡ 0 = ap (λ x. x.lent) value ∙ c.requires.lent in
    let records = c.reach_waits.new.records in
    let longer = c.reach_waits.ensures.longer in
    let at = subst (λ (x : Desk _ _ _). (h : IsIn m ends told.0 v x) × IsOpenIn m ends v h.hand.slots (m.on a))
    (sym value) (told.1, told.3) in
    λ v0 h. c.wait_on.ensures.answer v0
    (in_stray m ends v0 v held records (subst (λ x. IsIn m ends v0 v x) (sym value) h) longer lent).0

pub put_home_halted-requires-clause-hand : goal.put_home_halted-requires-clause-hand
put_home_halted-requires-clause-hand g c =
    let m = g.L.Revision.machine in
    let ends = g.L.Revision.ends in
    let v = c.args.place.now.me.0 in
    let old = c.args.desk.value in
    let held = c.deref_mut-held.result.now in
    let value = c.deref_mut-held.ensures.value in
    let a = c.args.at in
    let told = c.requires.told in
    let lent : held.lent ≡ 0 = ap (λ x. x.lent) value ∙ c.requires.lent in
    let records = c.reach_waits.new.records in
    let longer = c.reach_waits.ensures.longer in
    let at = subst (λ (x : Desk _ _ _). (h : IsIn m ends told.0 v x) × IsOpenIn m ends v h.hand.slots (m.on a))
    (sym value) (told.1, told.3) in
    hand_longer m ends v old held records held.plan told.1.hand value longer

pub returns-then-not-reach_waits-clause-answer : goal.returns-then-not-reach_waits-clause-answer
returns-then-not-reach_waits-clause-answer g c =
    let m = g.L.Revision.machine in
    let ends = g.L.Revision.ends in
    let v = c.args.place.now.me.0 in
    let old = c.args.desk.value in
    let held = c.deref_mut-held.result.now in
    let value = c.deref_mut-held.ensures.value in
    let a = c.args.at in
    let told = c.requires.told in
    let lent : held.lent ≡ 0 = ap (λ x. x.lent) value ∙ c.requires.lent in
    let records = c.reach_waits.new.records in
    let longer = c.reach_waits.ensures.longer in
    let at = subst (λ (x : Desk _ _ _). (h : IsIn m ends told.0 v x) × IsOpenIn m ends v h.hand.slots (m.on a))
    (sym value) (told.1, told.3) in
    λ v0 h. (
      tt,
      (refl, c.put_home_halted.ensures.halted v0 (in_longer m ends v0 v old held records held.plan h value longer)),
    )
