-- Answers of Held::read: a read leaves all by which the hold tells of a collapse.
use Rattle.segment_store.proofs.Tells.{still_told}
use Rattle.segment_store.proofs.held.HeldSnapshot.read.Goals as goal

pub returns-clause-answered : goal.returns-clause-answered
returns-clause-answered c = let s = c.read.ensures.same in
    still_told c.args.self.now.hold c.read.new.hold s.1.2 s.3 s.4
