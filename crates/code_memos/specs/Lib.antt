-- Definitions of code_memos: what is kept of the leaf revisions of a run, and for which of another run it is
-- valid; and with what each revision begins, whatever the schedule.
pub mod Births
pub mod Renaming
pub mod Leaf
pub mod Laws
pub mod Worlds
pub mod Memo
pub mod Recording
pub mod Freshness
pub mod ByNumber
