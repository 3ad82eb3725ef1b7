-- Definitions of rev_expressions: the grammar of the language, and the parser of expressions.
pub mod Classes
pub mod Source
pub mod Reads
pub mod Grammar
pub mod Statements
pub mod Declarations
pub mod Parse
pub mod Parses
pub mod Lists
pub mod Outcome
pub mod Form
pub mod Reader
pub mod Exact
pub mod First
pub mod Theorem
