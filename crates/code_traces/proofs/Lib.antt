-- Proofs of code_traces: the outcome and the trace of code, by one run; and what the trace of a world of code
-- is, which for a program's code is that of the program.
pub mod Lists
pub mod Readings
pub mod Places
pub mod Alike
pub mod Listings
pub mod Worlds
pub mod Names
pub mod Last
pub mod Making
pub mod Tracing
pub mod Loops
