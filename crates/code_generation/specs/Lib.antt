-- Definitions of code_generation: the code of a program as a function of its tree.
pub mod Numbers
pub mod Expressions
pub mod Sizes
pub mod Statements
pub mod Prints
pub mod Generated
pub mod Stands
pub mod Laws
pub mod Named
pub mod Blocks
pub mod Rows
