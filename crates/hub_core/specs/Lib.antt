-- Definitions of hub_core: what lies in a hub's slot while nobody has the turn, why it stays the replay of its
-- schedule, and the rule of the hub's turn and tally.
pub mod Replay
pub mod Forkers
pub mod Hub
pub mod HubMachine
pub mod Laws
pub mod Counts
pub mod Chains
pub mod Found
pub mod Queued
pub mod Left
pub mod Halts
pub mod Marks
pub mod Passes
pub mod Views
pub mod Rule
pub mod Seats
pub mod Rounds
pub mod Tally
pub mod TallySteps
pub mod Recorded
pub mod Journaled
pub mod Woven
pub mod Ordered
