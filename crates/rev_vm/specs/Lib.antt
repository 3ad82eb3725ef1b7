-- Definitions of rev_vm: revisions that run code, from event to event: their legs, forks, joins and ends, and
-- with what they began.
pub mod Writes
pub mod Rows
pub mod Meaning
pub mod Revisions
pub mod NewWords
pub mod Starts
pub mod Legs
pub mod States
pub mod Laws
pub mod Values
pub mod Opening
pub mod Stopping
