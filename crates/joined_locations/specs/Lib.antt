-- Definitions of joined_locations: what a join writes into the locations of the joiner.
pub mod Changes
