-- Definitions of rev_evaluator: the value of an expression over any environment, and of a merge.
pub mod Declarations
pub mod Environment
pub mod Locals
pub mod Seen
pub mod Work
