-- Definitions of expression_meaning: the code of expressions, funs and merges has their values; when a state of
-- code stands where one of the calculus does.
pub mod Applying
pub mod Agrees
pub mod Blocks
pub mod Funs
pub mod Places
pub mod States
pub mod Laws
