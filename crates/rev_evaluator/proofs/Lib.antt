-- Proofs of rev_evaluator: the value of an expression over any environment, and of a merge.
mod Bindings
mod Counts
mod Evaluations
mod Meanings
mod Weighed
mod Works
