-- Definitions of kernel_cases: kernels, found by texts and composed by rows, by a table that a program plays.
pub mod Versioned
pub mod Written
