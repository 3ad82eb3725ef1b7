-- Definitions of trace_parts: the part of a revision by the places of the locations, and the order of parts.
pub mod PartOfRevision
