-- Definitions of turn_hub: the hub that threads share, on a turn and a tally.
pub mod Answers
pub mod Keeping
pub mod Turns
pub mod Plans
pub mod Joinings
pub mod Tries
pub mod Nones
pub mod Forkings
pub mod Comings
pub mod Seats
pub mod Opening
pub mod Closing
pub mod Names
