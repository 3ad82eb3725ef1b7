-- Answers of Store::begin_at: a number below that of the segments, and 1, times the stride is where a segment begins.
use Rattle.std.proofs.Common.{arith}
use Rattle.segment_store.proofs.Looks.{begin_fits}
use Rattle.segment_store.proofs.store.Store.begin_at.Goals as goal

pub returns : goal.returns
returns c = let w = c.args.self.now.wide in begin_fits _ c.args.self.now.segments
    c.args.self.now.stride c.args.self.now.words c.requires (let w0 = w.0 in omega arith)
    c.args.self.now.rowed.1
