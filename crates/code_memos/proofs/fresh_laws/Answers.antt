-- Answers of fresh_laws: each leg lists a fork or a join or ends its revision, so what listed none has gone no leg.
use Rattle.code_memos.proofs.Numbers.{unlisted_by_number}
use Rattle.code_memos.proofs.Standing.{unlisted_begins}
use Rattle.code_memos.proofs.fresh_laws.Goals as goal

pub returns : goal.returns
returns c = record { paths = unlisted_begins; numbers = unlisted_by_number }
