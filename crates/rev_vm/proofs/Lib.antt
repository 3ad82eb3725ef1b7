-- Proofs of rev_vm: revisions that run code, from event to event: their legs, forks, joins and ends, and with
-- what they began.
pub mod Meets
pub mod Frames
pub mod Fitting
pub mod Writing
pub mod Rows
pub mod Joins
pub mod Forks
pub mod Firsts
pub mod Forking
pub mod Leaving
pub mod Legs
pub mod Values
pub mod Born
pub mod Mains
pub mod Boxes
pub mod Reading
pub mod Beginnings
pub mod Claims
