-- Definitions of revision_calculus: what a program means, with its laws.
pub mod Program
pub mod State
pub mod Evaluation
pub mod Step
pub mod Join
pub mod Calculus
pub mod Outcome
pub mod HandlesHeld
pub mod KeptBySteps
pub mod Kinded
pub mod Complete
pub mod Words
pub mod Examples
pub mod Tight
