-- Proofs of rev_messages: refusals and their messages, and what the modes write beside an outcome.
pub mod Commas
