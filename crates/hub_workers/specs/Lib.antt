-- Definitions of hub_workers: threads that run the revisions of a hub.
pub mod Legs
pub mod Nexts
pub mod Work
pub mod Looks
pub mod Handed
pub mod Threads
pub mod Running
