-- Proofs of code_machine_laws: what a step of code comes to, whatever its instruction; each verified code has
-- one outcome; whose a trap is; what holds of each world of code that a legal schedule reaches, also of what
-- `main` has printed there; and what code reads of its snapshot and of the input.
pub mod Forms
pub mod StepTexts
pub mod Growing
pub mod Ending
pub mod Mains
pub mod Outcomes
pub mod Keeping
pub mod Reaching
pub mod Snapshots
pub mod Moving
pub mod LegReads
pub mod OwnReads
pub mod Apart
