-- Definitions of world_runs: schedules of such a world: its replay and its run to the end, by legs that are made
-- in some way; and such runs with notes of what each revision did.
pub mod Heap
pub mod Queue
pub mod LegOrNone
pub mod Replay
pub mod Covers
pub mod Finish
pub mod KeptByLegs
pub mod Changes
pub mod Notes
pub mod NotedRuns
