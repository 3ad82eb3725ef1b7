-- Definitions of revision_steps: the steps of one revision, and what a join leaves, by the calculus.
pub mod Texts
pub mod Owns
pub mod Forms
