-- Proofs of code_machine: verified code as a machine of revisions; its legs, schedules and outcome.
pub mod Legs
pub mod Renaming
pub mod Naming
pub mod Acts
pub mod Events
pub mod Holding
pub mod Paying
pub mod MachineConditions
pub mod Numbering
pub mod Changes
pub mod Typing
pub mod Ending
pub mod Starting
pub mod Outcomes
pub mod Showing
pub mod Fuel
pub mod Alike
