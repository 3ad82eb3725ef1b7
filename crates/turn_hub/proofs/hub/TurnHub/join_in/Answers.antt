-- Answers of TurnHub::join_in: what the joinee's record says, and how each case ends.
use Rattle.std.proofs.Common.{ℕ, ◌∙◌, subst}
use Rattle.hub_core.specs.declared.desk.Desk.{Desk}
use Rattle.hub_core.specs.Tally.{record_at}
use Rattle.turn_hub.specs.declared.joinee.Joinee.{Joinee}
use Rattle.turn_hub.specs.Joinings.{IsJoinee}
use Rattle.turn_hub.proofs.Seeks.{record_gone, record_open, record_waits}
use Rattle.turn_hub.proofs.hub.TurnHub.join_in.Goals as goal

pub claim_in-requires-clause-over : goal.claim_in-requires-clause-over
claim_in-requires-clause-over g c =
    let m = g.L.Revision.machine in
    let ends = g.L.Revision.ends in
    let v = c.args.place.now.me.0 in
    let old = c.args.desk.value in
    let on = m.on c.args.at in
    let told = c.requires.told in
    let says = subst (λ (z : Desk _ _ _ × ℕ × Joinee). IsJoinee (record_at z.0.records.list.items z.1) z.2)
    (λ i. (c.deref.ensures i, c.on.ensures i, c.in-Over.is i)) c.joinee_of.ensures in
    says

pub twice_in-requires-clause-told : goal.twice_in-requires-clause-told
twice_in-requires-clause-told g c =
    let m = g.L.Revision.machine in
    let ends = g.L.Revision.ends in
    let v = c.args.place.now.me.0 in
    let old = c.args.desk.value in
    let on = m.on c.args.at in
    let told = c.requires.told in
    let says = subst (λ (z : Desk _ _ _ × ℕ × Joinee). IsJoinee (record_at z.0.records.list.items z.1) z.2)
    (λ i. (c.deref.ensures i, c.on.ensures i, c.in-Gone.is i)) c.joinee_of.ensures in
    (told.0, told.1, told.2, record_gone m ends v old told.1.hand on says)

pub await_in-requires-clause-told : goal.await_in-requires-clause-told
await_in-requires-clause-told g c =
    let m = g.L.Revision.machine in
    let ends = g.L.Revision.ends in
    let v = c.args.place.now.me.0 in
    let old = c.args.desk.value in
    let on = m.on c.args.at in
    let told = c.requires.told in
    let says = subst (λ (z : Desk _ _ _ × ℕ × Joinee). IsJoinee (record_at z.0.records.list.items z.1) z.2)
    (λ i. (c.deref.ensures i, c.on.ensures i, c.in-Open.is i)) c.joinee_of.ensures in
    (told.0, told.1, told.2, record_open m ends v old told.1.hand on says.0 says.1 says.2)

pub await_in-requires-clause-tracked : goal.await_in-requires-clause-tracked
await_in-requires-clause-tracked g c =
    let m = g.L.Revision.machine in
    let ends = g.L.Revision.ends in
    let v = c.args.place.now.me.0 in
    let old = c.args.desk.value in
    let on = m.on c.args.at in
    let told = c.requires.told in
    let says = subst (λ (z : Desk _ _ _ × ℕ × Joinee). IsJoinee (record_at z.0.records.list.items z.1) z.2)
    (λ i. (c.deref.ensures i, c.on.ensures i, c.in-Open.is i)) c.joinee_of.ensures in
    λ q. (says.0, says.1)

pub await_in-requires-clause-within : goal.await_in-requires-clause-within
await_in-requires-clause-within g c =
    let m = g.L.Revision.machine in
    let ends = g.L.Revision.ends in
    let v = c.args.place.now.me.0 in
    let old = c.args.desk.value in
    let on = m.on c.args.at in
    let told = c.requires.told in
    let says = subst (λ (z : Desk _ _ _ × ℕ × Joinee). IsJoinee (record_at z.0.records.list.items z.1) z.2)
    (λ i. (c.deref.ensures i, c.on.ensures i, c.in-Open.is i)) c.joinee_of.ensures in
    record_waits m ends v old told.1.hand on says.0 says.1

pub seek_in-requires-clause-none : goal.seek_in-requires-clause-none
seek_in-requires-clause-none g c =
    let m = g.L.Revision.machine in
    let ends = g.L.Revision.ends in
    let v = c.args.place.now.me.0 in
    let old = c.args.desk.value in
    let on = m.on c.args.at in
    let told = c.requires.told in
    let says = subst (λ (z : Desk _ _ _ × ℕ × Joinee). IsJoinee (record_at z.0.records.list.items z.1) z.2)
    (λ i. (c.deref.ensures i, c.on.ensures i, c.in-Nowhere.is i)) c.joinee_of.ensures in
    says

pub returns-in-Over-clause-came : goal.returns-in-Over-clause-came
returns-in-Over-clause-came g c =
    (c.claim_in.ensures.rests, c.claim_in.ensures.mine ∙ c.requires.mine, c.claim_in.ensures.answer)

pub returns-in-Gone-clause-came : goal.returns-in-Gone-clause-came
returns-in-Gone-clause-came g c =
    (c.twice_in.ensures.rests, c.twice_in.ensures.mine ∙ c.requires.mine, c.twice_in.ensures.answer)

pub returns-in-Open-clause-came : goal.returns-in-Open-clause-came
returns-in-Open-clause-came g c =
    (c.await_in.ensures.rests, c.await_in.ensures.mine, c.await_in.ensures.told)
