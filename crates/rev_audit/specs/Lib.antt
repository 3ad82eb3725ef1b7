-- Definitions of rev_audit: audits a trace: whether it is that of a program; and one revision by itself, with
-- its steps and its joins of revisions of which the end is told.
pub mod Alone
pub mod Own
pub mod Sweep
