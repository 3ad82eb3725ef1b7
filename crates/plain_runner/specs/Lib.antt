-- Definitions of plain_runner: runs a program by the calculus, one step after another, and makes its trace.
pub mod Made
pub mod Views
pub mod Shows
pub mod Keeping
