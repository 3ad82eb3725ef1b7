-- Proofs of merge_decl: the applications and the funs of a program, one after another.
pub mod Few
pub mod FunSteps
pub mod UsesAdded
