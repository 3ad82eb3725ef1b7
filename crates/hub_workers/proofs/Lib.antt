-- Proofs of hub_workers: threads that run the revisions of a hub.
pub mod Events
pub mod Handed
pub mod Owing
pub mod Children
pub mod Behinds
pub mod Rows
