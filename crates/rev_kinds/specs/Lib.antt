-- Definitions of rev_kinds: the rules on expressions by the first of two faults.
pub mod Walk
