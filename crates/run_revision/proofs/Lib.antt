-- Proofs of run_revision: verified code as a machine of a hub, and its revisions as those of a hub.
pub mod Shown
pub mod JoinersAndEnds
pub mod Standing
pub mod Events
pub mod Taking
pub mod CodeRuns
