-- Definitions of sparse_table: atomic words of which some are not there yet, and a table of them in parts, of
-- which the memory is written when a part is first wanted.
pub mod Words
pub mod Owned
pub mod Parts
pub mod Plays
pub mod Seats
pub mod Ended
pub mod Last
pub mod Halves
