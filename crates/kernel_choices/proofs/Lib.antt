-- Proofs of kernel_choices: which kernel merges which location of a program.
pub mod Serving
pub mod Applied
pub mod Rows
pub mod Beyond
pub mod Rounds
