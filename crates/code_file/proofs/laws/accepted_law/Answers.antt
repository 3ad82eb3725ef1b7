-- Answers of accepted_law: code without a fault has small parts, and what is small fits the wider fields of a file.
use Rattle.code_file.proofs.Accepted.{accepted}
use Rattle.code_file.proofs.laws.accepted_law.Goals as goal

pub returns : goal.returns
returns c = accepted
