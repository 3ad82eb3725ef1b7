-- Definitions of code_file: the file of code, read and written.
pub mod Fields
pub mod Parts
pub mod Reads
pub mod Files
pub mod Counts
pub mod Laws
