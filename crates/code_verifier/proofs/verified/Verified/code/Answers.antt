-- Answers of Verified::code: verified code has no fault, and code without a fault has certificates of all its blocks.
use Rattle.code_soundness.proofs.Accepting.{no_fault_accepted}
use Rattle.code_verifier.proofs.verified.Verified.code.Goals as goal

pub returns-clause-accepted : goal.returns-clause-accepted
returns-clause-accepted c = no_fault_accepted c.args.self.now.code c.args.self.now.sound
