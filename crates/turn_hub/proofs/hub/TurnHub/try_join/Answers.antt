-- Answers of TurnHub::try_join: the turn of the try is told of the view before it, and of any before that.
use Rattle.std.proofs.Common.{◌∷◌, sym, ap, ◌∙◌, subst}
use Rattle.hub_core.specs.Seats.{HasJoin}
use Rattle.hub_core.specs.declared.sight.Sight.{Sight}
use Rattle.turn_hub.specs.Joinings.{IsBefore}
use Rattle.turn_hub.proofs.Finding.{pass_on}
use Rattle.turn_hub.proofs.Strays.{before_pass}
use Rattle.turn_hub.proofs.hub.TurnHub.try_join.Goals as goal

pub returns-in-Ok-clause-came : goal.returns-in-Ok-clause-came
returns-in-Ok-clause-came g c =
    let told = c.in-Some.ensures.told.3 in
    let came = c.in-Ok.ensures.came in (
      came.0.3 ∙ ap (λ l. c.join_in.new.place.me.0.seat.log ∷ l) told.same.4,
      λ v0 before. came.2 v0 (before.turn c.enter_recorded-entered.new.place.me.0 c.in-Some.desk.value told),
    )

pub returns-in-Err-clause-sought : goal.returns-in-Err-clause-sought
returns-in-Err-clause-sought g c =
    let m = g.L.Revision.machine in
    let ends = g.L.Revision.ends in
    let told = c.in-Some.ensures.told in
    let v = c.args.seat.now.place.me.0 in
    let w = c.enter_recorded-entered.new.place.me.0 in
    let at = c.in-Err.ensures.sought in
    let is = sym (ap (λ x. x.0) at.1) in (
      at.0,
      subst (λ (x : Sight _). IsBefore m ends v x) is (before_pass m ends v w c.in-Some.desk.value told.3 told.1),
      subst (λ (x : Sight _). HasJoin m ends x.seat c.args.of c.args.at) is
          (pass_on m ends v.seat w.seat c.args.of told.3.same.1 told.3.same.3 c.requires.event),
      sym (ap (λ x. x.seat.group) is) ∙ told.3.same.2,
    )
