-- Definitions of kernel_choices: which kernel merges which location of a program.
pub mod Choices
