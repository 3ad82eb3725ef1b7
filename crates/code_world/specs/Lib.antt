-- Definitions of code_world: a world of revisions that run code, on one thread: its start, its legs, also with
-- notes of what they read, ends that are taken over, what `main` has printed and what it left.
pub mod Slots
pub mod Tables
pub mod Turns
pub mod Starts
pub mod LegOutcomes
pub mod Answers
pub mod Endings
pub mod Counts
pub mod Meetings
pub mod Said
pub mod Touches
pub mod Adopted
pub mod Beginnings
pub mod Between
