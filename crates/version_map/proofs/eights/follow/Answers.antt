-- Answers of follow: in ascending order the first and the last of some tell whether they follow each other.
use Rattle.version_map.proofs.Following.{between}
use Rattle.version_map.proofs.eights.follow.Goals as goal

pub returns-clause-run : goal.returns-clause-run
returns-clause-run c = λ _.
    between c.args.written.now c.args.at c.args.first c.args.many c.requires.ascending c.requires.within
    c.if-written-at.false
    c.if-last-first.false
