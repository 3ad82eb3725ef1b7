-- Proofs of leg_run: a running revision, and its legs from event to event.
pub mod Adding
pub mod Agreeing
pub mod IfOn
pub mod Marks
pub mod Rounds
pub mod Decoding
pub mod Frames
pub mod Calling
pub mod Returning
pub mod Joining
pub mod Applying
pub mod Printing
pub mod Rounding
pub mod NotedLegs
