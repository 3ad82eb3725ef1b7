-- Proofs of fun_run: the values of funs and merges on the area of words, and the merges of all locations by the
-- merge blocks of code.
pub mod Slices
pub mod Calls
pub mod Running
pub mod Limits
pub mod Depths
pub mod Short
pub mod Blocks
pub mod Composing
