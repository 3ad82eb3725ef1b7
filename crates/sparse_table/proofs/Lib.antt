-- Proofs of sparse_table: of the words below, each step by hand, and of the table in parts that stands on them.
pub mod Rows
pub mod Moves
pub mod Shown
pub mod Sent
pub mod Fields
pub mod Dealing
mod Rights
pub mod Laid
pub mod Spots
pub mod Changes
pub mod Steps
pub mod Cuts
pub mod Makes
pub mod Names
pub mod Ends
pub mod Same
pub mod Opened
