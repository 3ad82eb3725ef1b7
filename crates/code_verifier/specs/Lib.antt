-- Definitions of code_verifier: the verifier, exact in what it accepts and in the first fault.
pub mod ShapesByNumber
pub mod Trie
pub mod Effects
pub mod Marking
pub mod Spending
pub mod Passing
pub mod Verdicts
