-- Proofs of stated_parts: the tables of the stated parts, and what a part tells of the end of its revision.
pub mod Accepted
pub mod Finding
pub mod Slots
pub mod Telling
pub mod ToldLocations
