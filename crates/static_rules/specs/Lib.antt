-- Definitions of static_rules: the static rules as a relation, one row each, by which a text's first fault is
-- defined.
pub mod Breaks
pub mod Examples
pub mod Front
pub mod Funs
pub mod Laws
pub mod Places
