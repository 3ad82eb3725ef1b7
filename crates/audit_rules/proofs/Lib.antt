-- Proofs of audit_rules: the audit of a trace.
pub mod OneOwnRun
pub mod AfterSteps
pub mod Theorem
pub mod NotedEvents
pub mod ToldSuffices
pub mod PlacesApart
pub mod CalculusMeets
pub mod OwnRuns
pub mod TracesAsParts
pub mod PartsExist
pub mod Decided
pub mod SameParts
pub mod FinalTraces
pub mod Verdicts
