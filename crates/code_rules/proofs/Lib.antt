-- Proofs of code_rules: the rules that code keeps, and the pass that finds the first fault.
pub mod Limits
pub mod Drops
