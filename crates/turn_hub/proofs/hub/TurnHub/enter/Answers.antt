-- Answers of TurnHub::enter: a seat that took the turn finds the value in the slot.
use Rattle.std.proofs.Common.{sym, ap, ◌∙◌, subst}
use Rattle.turn_hub.specs.Turns.{IsIn}
use Rattle.turn_hub.proofs.Homes.{same_box}
use Rattle.turn_hub.proofs.Taking.{in_taken}
use Rattle.turn_hub.proofs.hub.TurnHub.enter.Goals as goal

pub take_out_desk-requires-clause-home : goal.take_out_desk-requires-clause-home
take_out_desk-requires-clause-home g c = let t = c.wait_turn.ensures.took in (t.0, t.2)

pub returns-clause-told : goal.returns-clause-told
returns-clause-told g c =
    let t = c.wait_turn.ensures.took in
    let box = same_box _ t.0 c.take_out_desk.result t.2 c.take_out_desk.ensures.slot in
    subst (λ v. IsIn g.L.Revision.machine g.L.Revision.ends c.args.place.now.me.0 v c.take_out_desk.result.value)
    (sym c.take_out_desk.ensures.view)
    (subst
    (λ b. IsIn g.L.Revision.machine g.L.Revision.ends c.args.place.now.me.0 c.wait_turn.new.place.me.0 b.value) box
    (in_taken _ _ t.1))

pub returns-clause-mine : goal.returns-clause-mine
returns-clause-mine g c = ap (λ v. v.mine) c.take_out_desk.ensures.view ∙ c.wait_turn.ensures.took.1.same.6
