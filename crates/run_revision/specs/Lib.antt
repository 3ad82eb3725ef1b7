-- Definitions of run_revision: verified code as a machine of a hub, and its revisions as those of a hub.
pub mod CodeState
pub mod CodeValues
pub mod Laws
pub mod Values
pub mod Forking
pub mod Hands
pub mod CodeRuns
