-- Definitions of rev_code: instructions, code, and what code means.
pub mod Words
pub mod State
pub mod Variables
pub mod Printing
pub mod Step
pub mod Funs
pub mod Events
