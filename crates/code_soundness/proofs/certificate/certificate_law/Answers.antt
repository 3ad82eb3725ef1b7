-- Answers of certificate_law: what the pass knew on arrival at each place is the certificate of the block.
use Rattle.code_soundness.proofs.Accepted.{accepted}
use Rattle.code_soundness.proofs.certificate.certificate_law.Goals as goal

pub returns : goal.returns
returns c = accepted
