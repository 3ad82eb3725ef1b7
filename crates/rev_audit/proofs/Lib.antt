-- Proofs of rev_audit: one revision by itself, own runs, and the audit from the last part to the first.
pub mod Fits
pub mod ToldEnds
pub mod OwnRuns
pub mod Sweeps
pub mod Taking
pub mod Running
