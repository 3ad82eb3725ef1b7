-- Definitions of rev_record: code run on one thread so that its leaf revisions are recorded, and once more so
-- that the ends of those that have not changed are taken over.
pub mod Entries
pub mod Memos
pub mod Legs
pub mod Standing
pub mod Begins
pub mod Told
pub mod EntryLaws
pub mod Words
pub mod SoFar
pub mod RunLaws
pub mod MemoLaws
