-- Definitions of determinacy: the calculus as rules of the runner, with how many steps a revision can make; and
-- that a join sees of the joined revision its end alone.
pub mod Ends
pub mod Rules
pub mod Meets
