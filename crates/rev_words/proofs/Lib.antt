-- Proofs of rev_words: the command line, and the text of the load program.
pub mod Each
pub mod Lists
pub mod Loads
pub mod Naturals
pub mod Simple
pub mod Schedules
pub mod Ranges
