-- Answers of TurnHub::put_home: with the value in its slot the seat may give the turn up.
use Rattle.std.proofs.Common.{sym, ap, subst}
use Rattle.hub_core.specs.Tally.{HasDesk}
use Rattle.turn_hub.proofs.hub.TurnHub.put_home.Goals as goal

pub give-requires-clause-hand : goal.give-requires-clause-hand
give-requires-clause-hand g c = let e = c.put_in_desk.ensures.after in (
  c.args.desk,
  subst (λ v. HasDesk g.L.Revision.machine g.L.Revision.ends v c.args.desk.value) (sym (ap (λ m. m.0) e))
      c.requires.hand,
  ap (λ m. m.1) e,
)
