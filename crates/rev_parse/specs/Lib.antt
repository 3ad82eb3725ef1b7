-- Definitions of rev_parse: the parser.
pub mod Instance
pub mod Parsing
pub mod Parts
pub mod Pieces
pub mod Samples
pub mod SmallTree
pub mod Verdicts
