-- Definitions of code_ways: the rules in words, by ways through a block, and that the pass finds the first
-- fault.
pub mod Ways
pub mod Breaks
pub mod First
pub mod OfCode
pub mod Certified
