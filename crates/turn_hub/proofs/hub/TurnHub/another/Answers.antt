-- Answers of TurnHub::another: to split one of several parts off an idle seat is a step that the rule allows.
use Rattle.std.proofs.Common.{rules}
use Rattle.hub_core.proofs.Seating.{another}
use Rattle.turn_hub.proofs.hub.TurnHub.another.Goals as goal

pub split_seat-requires : goal.split_seat-requires
split_seat-requires g c =
    (c.requires.0, search rules, another g.L.Revision.machine g.L.Revision.ends _ _ _ c.requires.1.0 c.requires.2)
