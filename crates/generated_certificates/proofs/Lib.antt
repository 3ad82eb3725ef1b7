-- Proofs of generated_certificates: the code of typed expressions and statements has certificates, and the
-- tables of a well-typed program's code keep the verifier's rules.
pub mod Parts
pub mod Lengths
pub mod WordKinds
pub mod Places
pub mod Expressions
pub mod Depths
pub mod Scopes
pub mod StatementLengths
pub mod Pieces
pub mod Bodies
pub mod Names
pub mod Counts
pub mod Lines
pub mod Variables
pub mod Small
