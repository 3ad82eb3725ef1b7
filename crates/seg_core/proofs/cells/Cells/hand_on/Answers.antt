-- Answers of Cells::hand_on: both holders have references in the state, so they are holders that may refer.
use Rattle.std.proofs.Common.{arith}
use Rattle.seg_core.specs.Shape.{list_of}
use Rattle.seg_core.proofs.Maps.{map_inside}
use Rattle.seg_core.proofs.cells.Cells.hand_on.Goals as goal

pub refer-requires : goal.refer-requires
refer-requires c = let h = map_inside list_of c.args.self.now.holders.items c.args.holder _
    c.if-not-refers.ensures in let long = c.args.self.now.long in let long1 = long.1 in omega arith

pub refer-requires-2 : goal.refer-requires-2
refer-requires-2 c = let h = map_inside list_of c.args.self.now.holders.items c.args.to _
    c.if-not-refers-2.ensures in let long = c.args.self.now.long in let long1 = long.1 in
    omega arith
