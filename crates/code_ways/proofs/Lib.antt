-- Proofs of code_ways: the rules in words, by ways through a block, and that the pass finds the first fault.
pub mod Knowing
pub mod Depths
pub mod Testing
pub mod Exact
pub mod OfCode
pub mod Certified
