-- Answers of record_laws: entries of the run that leave out no fresh revision are all, so they make the memo.
use Rattle.code_memos.proofs.Recorded.{recorded_is_memo, counted_is_reused, reused_is_one}
use Rattle.code_memos.proofs.record_laws.Goals as goal

pub returns : goal.returns
returns c = record { memo = recorded_is_memo; reused = counted_is_reused; one = reused_is_one }
