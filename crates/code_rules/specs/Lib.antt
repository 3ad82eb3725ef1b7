-- Definitions of code_rules: the rules that code keeps, and the pass that finds the first fault.
pub mod Tables
pub mod Shapes
pub mod Pass
pub mod Verdict
