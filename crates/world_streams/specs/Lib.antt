-- Definitions of world_streams: runs of code on one thread that print as they run.
pub mod Pieces
pub mod Legs
pub mod Runs
pub mod Streamed
