-- Proofs of version_map: deltas and snapshots, what a revision leaves, and what a joiner takes over.
pub mod Bits
pub mod Composing
pub mod Faulting
pub mod RowSteps
pub mod RowParts
pub mod Following
pub mod WholeRows
pub mod NextBits
pub mod Summaries
pub mod Nexts
