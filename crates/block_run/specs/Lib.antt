-- Definitions of block_run: instructions of one block on an area of words, and the loop of funs and merges over
-- them.
pub mod Remembering
pub mod Area
pub mod Stops
pub mod Deeds
pub mod Standing
pub mod Plain
pub mod Agreement
pub mod Marks
pub mod WhereOn
