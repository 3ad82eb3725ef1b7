-- Proofs of code_generation: the code of a program as a function of its tree.
pub mod Lengths
pub mod Standing
pub mod Jumps
pub mod Inside
pub mod Naming
pub mod BlockRules
pub mod Merges
pub mod BlockPlaces
