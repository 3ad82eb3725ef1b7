-- Proofs of world_streams: runs of code on one thread that print as they run.
pub mod Putting
pub mod Gaining
pub mod Legs
pub mod Ending
