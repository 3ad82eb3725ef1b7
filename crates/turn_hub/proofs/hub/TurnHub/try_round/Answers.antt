-- Answers of TurnHub::try_round: an exchange of the tally that announces joinee and forker is a step of the rule.
use Rattle.std.proofs.Common.{rules, refl}
use Rattle.hub_core.specs.TallySteps.{first_sight}
use Rattle.hub_core.proofs.Planned.{told_round_made}
use Rattle.turn_hub.proofs.Rounds.{can_round}
use Rattle.turn_hub.proofs.hub.TurnHub.try_round.Goals as goal

pub compare_exchange_with-found-requires : goal.compare_exchange_with-found-requires
compare_exchange_with-found-requires g c =
    let e = c.requires.event in
    let m = g.L.Revision.machine in
    let ends = g.L.Revision.ends in
    let v = c.args.place.now.me.0 in (
      c.requires.own,
      search rules,
      told_round_made m ends (first_sight c.args.self.now.turn.shared.key.views) _ _ c.args.place.now.me c.args.joinee
          c.args.of e.2.joiner e.2.last c.args.child.now e.1 c.args.number
          (can_round m ends v c.args.joinee c.args.of e.0 e.1 c.args.child.now e.2 e.3 c.requires.idle.0
          c.requires.idle.1 c.requires.kept)
          c.requires.room,
    )

pub returns-clause-made : goal.returns-clause-made
returns-clause-made g c = (c.compare_exchange_with-found.ensures.2 c.args.number refl).0

pub returns-clause-missed : goal.returns-clause-missed
returns-clause-missed g c = (c.compare_exchange_with-found.ensures.2 c.args.number refl).1
