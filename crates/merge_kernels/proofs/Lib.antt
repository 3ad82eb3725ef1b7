-- Proofs of merge_kernels: merges that are stored as closures, each beside its definition, and the plan of which
-- merges what.
pub mod Listed
pub mod Equality
pub mod Renaming
pub mod LinkSteps
pub mod MergeTerms
pub mod ThreeValues
pub mod OneLane
pub mod RowChoices
pub mod LevelRows
pub mod RowWords
pub mod SharedKernels
pub mod WordPairs
pub mod RowRuns
pub mod OneRuns
