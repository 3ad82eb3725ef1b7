-- Answers of certified_law: a certificate keeps each rule in words everywhere, and the pass accepts what keeps all.
use Rattle.code_ways.proofs.Certified.{certified_accepted}
use Rattle.code_ways.proofs.certified_law.Goals as goal

pub returns : goal.returns
returns c = certified_accepted
