-- Definitions of rev_workers: verified code, run by threads over shared segments.
pub mod Runs
pub mod Stores
pub mod Hands
pub mod Plans
pub mod Ran
