-- Definitions of code_runs: the outcome of code, run on one thread, also from a schedule on; revisions by number
-- and by path.
pub mod Births
pub mod Revisions
pub mod Words
pub mod Ends
pub mod Completed
pub mod Schedules
