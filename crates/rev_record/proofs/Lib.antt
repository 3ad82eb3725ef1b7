-- Proofs of rev_record: code run on one thread so that its leaf revisions are recorded, and once more so that
-- the ends of those that have not changed are taken over.
pub mod Known
pub mod Legs
pub mod Recorded
pub mod Repeated
pub mod RunEnds
pub mod Lists
pub mod Words
pub mod Beginning
pub mod Telling
pub mod Adopting
pub mod Validity
pub mod EntryOfLeaf
pub mod Ends
pub mod Located
pub mod Loops
pub mod Leaves
pub mod Keeping
pub mod Deciding
pub mod MemoExists
pub mod OneNumber
