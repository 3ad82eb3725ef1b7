-- Proofs of thread_runs: verified code, run by threads: its outcome and its schedule.
pub mod Bearing
pub mod Naming
pub mod Firsts
pub mod Mains
pub mod Owning
pub mod Owned
