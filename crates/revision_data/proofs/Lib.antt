-- Proofs of revision_data: the data of a revision: its locations, what its view shows, and what it printed.
pub mod Lists
pub mod Texts
pub mod Showing
