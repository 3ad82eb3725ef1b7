-- Answers of TurnHub::enter_free: the turn that was entered has no halt, or is given back.
use Rattle.std.proofs.Common.{◌∷◌, ap, ◌∙◌, arith}
use Rattle.turn_hub.proofs.hub.TurnHub.enter_free.Goals as goal

pub returns-then-is_some-clause-told : goal.returns-then-is_some-clause-told
returns-then-is_some-clause-told g c =
    let told = c.enter-desk.ensures.told in
    let r = c.put_home_halted.ensures.rests in
    let limit = told.limit in
    let more = r.5 in (
      (
        r.0,
        r.1,
        r.2 ∙ told.same.0,
        r.3 ∙ ap (λ l. c.put_home_halted.new.place.me.0.seat.log ∷ l) told.same.4,
        r.4 ∙ told.same.5,
        omega arith,
      ),
      c.put_home_halted.ensures.halted c.args.place.now.me.0 told,
    )
