-- Proofs of expression_meaning: the code of expressions, funs and merges has their values; when a state of code
-- stands where one of the calculus does.
pub mod Applying
pub mod Typed
pub mod Typing
pub mod Words
pub mod Runs
pub mod Uses
pub mod Params
pub mod Blocks
pub mod Funs
pub mod Locals
pub mod Parts
pub mod BlockPlaces
