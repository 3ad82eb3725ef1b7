-- Definitions of rev_types: what the checker of the static rules gathers, and the rules by the first of two faults.
pub mod Naming
pub mod Passing
pub mod Tables
pub mod Walk
