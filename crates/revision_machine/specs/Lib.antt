-- Definitions of revision_machine: the theory of revisions for every machine of them, and a runner for every
-- language of them.
pub mod PathMap
pub mod Machine
pub mod Conditions
pub mod Laws
pub mod Theory
pub mod Births
pub mod Simulation
pub mod Numbered
pub mod Schedules
pub mod Rules
pub mod PathIndex
pub mod RevisionList
pub mod States
pub mod StepOutcomes
pub mod ListStep
pub mod Progress
pub mod TwoOrders
