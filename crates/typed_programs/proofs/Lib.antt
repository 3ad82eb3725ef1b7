-- Proofs of typed_programs: what is well typed, and the faults that a program has.
pub mod Accepting
pub mod Appends
pub mod Applying
pub mod Declared
pub mod DeclsFaults
pub mod DeclsSound
pub mod DeclsWithin
pub mod Firsts
pub mod Layouts
pub mod Leasts
pub mod Lists
pub mod MergeParams
pub mod Returning
mod Rows
pub mod Scopes
pub mod Shapes
pub mod StatementsFaults
pub mod StatementsSound
pub mod StatementsWithin
pub mod Typings
pub mod Uses
pub mod Weights
