-- Definitions of rev_report: what is written of an outcome, statuses, and the limits of the language.
pub mod Status
pub mod Lines
pub mod Report
pub mod Limits
pub mod Outcome
pub mod Faults
pub mod Refusals
pub mod Modes
