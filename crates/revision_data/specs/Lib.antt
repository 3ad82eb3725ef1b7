-- Definitions of revision_data: the data of a revision: its locations, what its view shows, and what it printed.
pub mod LocationCodes
pub mod Reading
pub mod Pieces
pub mod Shows
