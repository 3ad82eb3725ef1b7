-- Answers of memo_laws: complete runs have one end, so a revision's entry and the memo are one.
use Rattle.code_memos.proofs.Entries.{one_entry, one_memo}
use Rattle.code_memos.proofs.memo_laws.Goals as goal

pub returns : goal.returns
returns c = record { entry = one_entry; memo = one_memo }
