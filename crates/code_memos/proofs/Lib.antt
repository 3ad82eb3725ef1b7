-- Proofs of code_memos: what is kept of the leaf revisions of a run, and for which of another run it is valid;
-- and with what each revision begins, whatever the schedule.
pub mod Witness
pub mod Births
pub mod Leaves
pub mod News
pub mod Leaving
pub mod Reading
pub mod Adopting
pub mod Entries
pub mod Recorded
pub mod Standing
pub mod Numbers
pub mod ByNumber
