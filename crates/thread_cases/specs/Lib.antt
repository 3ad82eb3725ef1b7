-- Definitions of thread_cases: a small machine for the hub, run by threads; steps on one segment, and threads on
-- one store.
pub mod Parts
pub mod Tree
pub mod Machine
