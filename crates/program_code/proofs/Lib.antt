-- Proofs of program_code: the code of a program can be written as a code file, and never joins a revision twice
-- where no run of the program does.
pub mod Tries
pub mod Counting
pub mod Simulated
