-- Proofs of rev_types: the first of the faults, and what names mean.
pub mod FirstOfFaults
pub mod Named
pub mod Namings
pub mod OwnLimits
pub mod Refusing
