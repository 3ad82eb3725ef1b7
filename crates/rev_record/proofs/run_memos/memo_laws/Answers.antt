-- Answers of memo_laws: three lemmas, that each run has a memo, that each list is reused, and by one number.
use Rattle.rev_record.proofs.MemoExists.{each_has_memo, each_is_reused}
use Rattle.rev_record.proofs.OneNumber.{one_reused}
use Rattle.rev_record.proofs.run_memos.memo_laws.Goals as goal

pub returns-clause-memo : goal.returns-clause-memo
returns-clause-memo c = each_has_memo

pub returns-clause-reused : goal.returns-clause-reused
returns-clause-reused c = each_is_reused

pub returns-clause-one : goal.returns-clause-one
returns-clause-one c = one_reused
