-- Definitions of machine_cases: parts of the machine.
pub mod Driving
