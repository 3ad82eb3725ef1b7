-- Answers of gather: to take one idle seat into another is a step that the rule allows.
use Rattle.std.proofs.Common.{◌<◌, arith}
use Rattle.hub_core.proofs.Seating.{gather}
use Rattle.turn_hub.proofs.closing.gather.Goals as goal

pub join_seat-requires : goal.join_seat-requires
join_seat-requires g c =
    let r = c.requires.own in
    let words = c.requires.sized in
    let some : 0 < c.args.turn.now.shared.table_id.words = omega arith in (
      r.0,
      r.2,
      r.3.1,
      some,
      gather g.L.Revision.machine g.L.Revision.ends _ _ c.args.place.now.me.0 _ c.args.other.me.0 r.1.0 r.3.0 r.1.2,
    )
