-- Proofs of code_verifier: the verifier, exact in what it accepts and in the first fault.
pub mod Stacks
pub mod Tries
pub mod Growing
pub mod Bridge
pub mod Passes
pub mod Small
pub mod Blocks
