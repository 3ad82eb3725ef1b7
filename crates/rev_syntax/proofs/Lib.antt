-- Proofs of rev_syntax: tokens, places and trees of the whole language.
pub mod Lists
pub mod PieceKinds
pub mod FixedWords
pub mod Exact
pub mod Reading
pub mod Unique
pub mod Spans
pub mod Shapes
