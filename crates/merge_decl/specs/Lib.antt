-- Definitions of merge_decl: what a contract sees of the applications of funs.
pub mod Uses
