-- Proofs of code_soundness: accepted code has certificates and never fails when it runs, funs and merges have
-- values, and a leg ends.
pub mod Basics
pub mod ShapesOnArrival
pub mod Accepted
pub mod Costs
pub mod Costing
pub mod Ways
pub mod Stepping
pub mod Once
pub mod Priced
pub mod Lists
pub mod Rooms
pub mod Accepting
pub mod Variables
pub mod Well
pub mod Cases
pub mod Places
pub mod Frames
pub mod Acting
pub mod Evaluating
pub mod Using
pub mod Reaching
