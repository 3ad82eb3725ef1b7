-- Definitions of leg_run: a running revision, and its legs from event to event.
pub mod Standing
pub mod Changes
pub mod Ends
pub mod Printed
pub mod Marks
pub mod Runs
pub mod ByMarks
pub mod Noting
