-- Proofs of seg_core: shared segments and their counts, as plain data.
pub mod Sums
pub mod Counts
pub mod Bases
pub mod Frees
pub mod Reaches
pub mod Maps
pub mod Refers
pub mod Holds
