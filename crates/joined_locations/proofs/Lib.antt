-- Proofs of joined_locations: what a join writes into the locations of the joiner, and the values of merges.
pub mod Compositions
pub mod LightMerges
