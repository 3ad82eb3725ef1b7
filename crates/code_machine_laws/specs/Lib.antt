-- Definitions of code_machine_laws: what a step of code comes to, whatever its instruction; each verified code
-- has one outcome; whose a trap is; what holds of each world of code that a legal schedule reaches, also of what
-- `main` has printed there; and what code reads of its snapshot and of the input.
pub mod Forms
pub mod Texts
pub mod Outcomes
pub mod Instance
pub mod Run
pub mod Legs
pub mod Reached
pub mod Laws
pub mod Reads
pub mod Moved
pub mod ReadLaws
pub mod LegReads
pub mod WorkedReads
