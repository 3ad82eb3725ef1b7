-- Answers of Cells::refer: one holder's list of references changes, and nothing else of the core.
use Rattle.seg_core.proofs.Maps.{lists_to}
use Rattle.seg_core.proofs.cells.Cells.refer.Goals as goal

pub returns : goal.returns
returns c = lists_to c.args.self.now.segments.items c.args.self.now.holders.items
    c.args.self.now.locations c.args.holder c.args.references
