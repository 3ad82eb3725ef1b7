-- Proofs of codegen: verified code of a well-typed program.
pub mod Accepted
