-- Proofs of emit_program: writes the code of a well-typed program, with its tables: the kinds of locals, the
-- texts, the layouts, the numbers of names, and the variables.
pub mod Numbered
pub mod Merges
pub mod Vars
pub mod Ends
pub mod Fits
pub mod Joined
pub mod Whole
