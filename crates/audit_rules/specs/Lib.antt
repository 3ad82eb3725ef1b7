-- Definitions of audit_rules: the audit of a trace.
pub mod Audited
pub mod Parts
pub mod Traces
pub mod Traced
pub mod Verdicts
