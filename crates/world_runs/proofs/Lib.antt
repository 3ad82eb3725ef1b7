-- Proofs of world_runs: schedules of such a world: its replay and its run to the end, by legs that are made in
-- some way; and such runs with notes of what each revision did.
pub mod Heaps
pub mod Queues
pub mod Making
pub mod Covering
pub mod CoveringAfter
pub mod LeastLegs
pub mod Keeping
pub mod MeetingsKept
pub mod Adding
pub mod Noting
pub mod Below
pub mod Changing
pub mod NotesOfLegs
