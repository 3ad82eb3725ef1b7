-- Definitions of rev_num: values, checked numbers, paths, traps, outcomes, and sums over lists.
pub mod Arith
pub mod Decimal
pub mod Laws
pub mod Limits
pub mod Path
pub mod PostOrder
pub mod Text
pub mod Value
pub mod Words
pub mod Sums
pub mod SumLaws
