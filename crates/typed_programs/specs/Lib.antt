-- Definitions of typed_programs: funs and merges with the values of expressions, the rules on names, kinds and
-- limits, and where the shared variables of a program lie.
pub mod Accepted
pub mod Definitions
pub mod Evaluation
pub mod Expands
pub mod Faults
pub mod FunRules
pub mod Judgement
pub mod KindLaws
pub mod Kinds
pub mod Laws
pub mod Layout
pub mod Least
pub mod Limits
pub mod Program
pub mod Rules
pub mod Scopes
pub mod Statements
pub mod Typing
pub mod Value
pub mod Weights
