-- Definitions of code_machine: verified code as a machine of revisions; its legs, schedules and outcome.
pub mod Local
pub mod Leg
pub mod Joining
pub mod Machines
pub mod Renamed
pub mod Weights
pub mod Worlds
pub mod Proper
pub mod Alike
pub mod Starts
pub mod Outcome
pub mod Ends
pub mod Rows
