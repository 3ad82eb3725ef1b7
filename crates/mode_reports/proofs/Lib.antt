-- Proofs of mode_reports: what the modes that go by no threads say of what they read.
pub mod CodeRuns
pub mod Codes
pub mod Faults
pub mod Repeating
pub mod Replaying
pub mod Stages
