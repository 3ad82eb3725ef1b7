-- Proofs of generated_blocks: the verifier accepts the code of every program that the checker accepts.
pub mod Certificates
pub mod Weights
pub mod Params
pub mod Bodies
pub mod Funs
pub mod Procs
pub mod Whole
pub mod Accepted
