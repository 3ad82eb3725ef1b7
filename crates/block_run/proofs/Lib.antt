-- Proofs of block_run: instructions of one block on an area of words, and the loop of funs and merges over them.
pub mod Stacks
pub mod Locations
pub mod WordsFound
pub mod NextPlaces
pub mod Onward
pub mod Turning
pub mod Loops
pub mod Tables
pub mod Ascending
pub mod Rooms
pub mod Numbers
pub mod Rows
pub mod Positions
