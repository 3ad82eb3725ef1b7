-- Proofs of code_runs: the outcome of code, run on one thread, also from a schedule on; revisions by number and
-- by path.
pub mod Naming
pub mod Overlays
pub mod Starting
pub mod Shows
pub mod Ending
pub mod Left
pub mod InWorlds
pub mod Completing
pub mod Least
pub mod Schedules
pub mod WorldsAndRuns
