-- Definitions of generated_blocks: the verifier accepts the code of every program that the checker accepts.
pub mod Notes
pub mod Laws
