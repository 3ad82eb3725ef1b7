-- Proofs of revision_steps: the steps of one revision, and what a join leaves, by the calculus.
pub mod Collected
pub mod Joined
pub mod Shapes
pub mod Steps
