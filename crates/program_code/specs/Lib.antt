-- Definitions of program_code: that the code of a program can be written as a code file, and never joins a
-- revision twice where no run of the program does.
pub mod Files
pub mod Never
