-- Definitions of generated_certificates: the code of typed expressions and statements has certificates, and the
-- tables of a well-typed program's code keep the verifier's rules.
pub mod Items
pub mod Expressions
pub mod Means
pub mod RulesKept
pub mod Laws
pub mod Statements
pub mod Bodies
pub mod StatementLaws
pub mod TableLaws
