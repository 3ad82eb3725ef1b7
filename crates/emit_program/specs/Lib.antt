-- Definitions of emit_program: writes the code of a well-typed program, with its tables: the kinds of locals,
-- the texts, the layouts, the numbers of names, and the variables.
pub mod Numbering
pub mod Variables
pub mod Fitting
pub mod Parts
