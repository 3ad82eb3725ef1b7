-- Proofs of code_listing: code as text.
pub mod Numbered
