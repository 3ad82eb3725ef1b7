-- Proofs of trace_parts: writes by the places of the locations, and the order of parts.
pub mod Changes
pub mod InOrder
