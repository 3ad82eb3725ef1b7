-- Definitions of rev_syntax: tokens, places and trees of the whole language.
pub mod Trees
pub mod View
pub mod Bytes
pub mod Words
pub mod Small
pub mod Tokens
pub mod Scan
pub mod Places
