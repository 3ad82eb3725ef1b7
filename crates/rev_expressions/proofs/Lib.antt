-- Proofs of rev_expressions: the grammar of the language, and the parser of expressions.
pub mod WholeGrammar
pub mod Turns
pub mod Lists
pub mod Chains
pub mod Expressions
pub mod Feeds
pub mod Signs
pub mod Words
pub mod Good
pub mod Exact
pub mod Whole
pub mod OneVerdict
