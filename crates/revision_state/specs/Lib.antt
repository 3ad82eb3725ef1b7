-- Definitions of revision_state: what a revision has to do: its frames, locals and phase; and the tables of a
-- program.
pub mod TreeCodes
pub mod LocalCodes
pub mod LocalPlaces
pub mod Remaining
pub mod Phases
pub mod Ends
pub mod Tables
pub mod Views
