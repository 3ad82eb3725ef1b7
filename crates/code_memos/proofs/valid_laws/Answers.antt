-- Answers of valid_laws: a fresh revision with the reads of the entry goes the same leg, to what the entry has.
use Rattle.code_memos.proofs.Adopting.{valid_is_the_leg}
use Rattle.code_memos.proofs.Leaving.{valid_is_the_end}
use Rattle.code_memos.proofs.valid_laws.Goals as goal

pub returns : goal.returns
returns c = record { end = valid_is_the_end; leg = valid_is_the_leg }
