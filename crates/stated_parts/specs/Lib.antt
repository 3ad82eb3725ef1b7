-- Definitions of stated_parts: what an audit looks up of the stated parts, and what a part tells of the end of its
-- revision.
pub mod Ends
pub mod Tables
pub mod Told
