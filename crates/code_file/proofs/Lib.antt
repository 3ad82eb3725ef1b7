-- Proofs of code_file: the file of code, read and written.
pub mod Steps
pub mod Operands
pub mod Sums
pub mod Counts
pub mod Written
pub mod ReadBack
pub mod Spelled
pub mod FieldRead
pub mod FileRead
pub mod OneFile
pub mod EachRead
pub mod Joined
pub mod Accepted
pub mod Firsts
pub mod HasFiles
