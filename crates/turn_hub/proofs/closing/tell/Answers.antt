-- Answers of tell: to split off a witness is a step that the rule allows to an idle seat.
use Rattle.std.proofs.Common.{◌<◌, arith}
use Rattle.hub_core.proofs.Seating.{tell}
use Rattle.turn_hub.proofs.closing.tell.Goals as goal

pub split_seat-requires : goal.split_seat-requires
split_seat-requires g c =
    let words = c.requires.sized in
    let some : 0 < c.args.turn.now.shared.table_id.words = omega arith in
    (c.requires.own.0, some, tell g.L.Revision.machine g.L.Revision.ends _ _ _ c.requires.own.1.0)
