-- Definitions of mode_reports: what a call answers, by its words and by the bytes that it reads.
pub mod Affine
pub mod Answer
pub mod Codes
pub mod Schedules
pub mod Stages
pub mod Stops
pub mod Texts
pub mod Traces
