-- Definitions of version_map: deltas and snapshots, what a revision leaves, and what a joiner takes over.
pub mod Masks
pub mod Deltas
pub mod Overlay
pub mod Endings
pub mod Ascending
pub mod Composing
pub mod Eights
pub mod Following
pub mod Parts
pub mod Collapsing
