-- Proofs of static_rules: the static rules as a relation, one row each, by which a text's first fault is
-- defined.
mod Back
mod Blocks
mod Decls
mod Declarations
pub mod Fronts
pub mod FunFaults
mod FunUses
mod Gathers
mod Inward
mod Expressions
pub mod Whole
