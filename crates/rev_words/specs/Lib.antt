-- Definitions of rev_words: the command line, and the text of the load program.
pub mod Answer
pub mod Command
pub mod Each
pub mod Load
pub mod Numbers
pub mod Reading
pub mod Rows
pub mod Schedule
