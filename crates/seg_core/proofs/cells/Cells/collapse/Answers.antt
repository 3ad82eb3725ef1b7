-- Answers of Cells::collapse: a holder that refers to the segment is one of the state's, so its list may change.
use Rattle.std.proofs.Common.{arith}
use Rattle.seg_core.specs.Shape.{list_of}
use Rattle.seg_core.proofs.Maps.{map_inside}
use Rattle.seg_core.proofs.cells.Cells.collapse.Goals as goal

pub free-requires-clause-inside : goal.free-requires-clause-inside
free-requires-clause-inside c = let h = map_inside list_of c.args.self.now.holders.items
    c.args.holder _ c.if-not-refers.ensures in let long = c.args.self.now.long in
    let long1 = long.1 in omega arith
