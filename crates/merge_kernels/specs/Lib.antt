-- Definitions of merge_kernels: merges that are stored as closures, each beside its definition, and the plan of
-- which merges what.
pub mod Terms
pub mod Closing
pub mod Named
pub mod Values
pub mod Equal
pub mod Merges
pub mod Lanes
pub mod Answering
pub mod Lists
pub mod Three
pub mod Plans
pub mod Words
pub mod Rows
