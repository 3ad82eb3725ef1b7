-- Definitions of rev_io: sources and sinks of bytes, and their faults.
pub mod Stream
pub mod Stepped
pub mod Memory
