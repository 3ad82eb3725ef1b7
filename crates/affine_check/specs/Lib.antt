-- Definitions of affine_check: the checker of the affine rule, exact in what it accepts and in the first breach.
pub mod Faults
pub mod Walk
pub mod Affine
pub mod Live
pub mod Owned
pub mod SecondUses
pub mod Places
pub mod Laws
pub mod Examples
