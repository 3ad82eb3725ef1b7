-- Proofs of revision_state: what a revision has to do: its frames, locals and phase; and the tables of a
-- program.
pub mod Bindings
pub mod Blocks
pub mod Callees
pub mod LocalPlaces
pub mod Merges
pub mod Readings
pub mod Rows
pub mod Starts
