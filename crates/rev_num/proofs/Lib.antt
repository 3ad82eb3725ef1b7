-- Proofs of rev_num: values, checked numbers, paths, traps, outcomes, and sums over lists.
pub mod PostOrder
pub mod Decimals
pub mod Dots
pub mod Division
pub mod Lists
pub mod Options
pub mod Maps
pub mod SameKinds
pub mod Totals
