-- Proofs of rev_parse: the parser.
pub mod Complete
pub mod Decides
pub mod StatementRules
pub mod Naturals
pub mod DeclarationRules
pub mod OfAnswer
pub mod OneVerdict
pub mod TextTokens
pub mod Holds
pub mod SizeOfValues
pub mod SmallExpressions
pub mod SmallStatements
pub mod SmallPrograms
pub mod SomeVerdict
