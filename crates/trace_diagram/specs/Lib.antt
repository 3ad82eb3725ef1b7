-- Definitions of trace_diagram: traces, their text both ways, and where the trace begins in a source that holds
-- a text and a trace.
pub mod Places
pub mod Lines
pub mod Traces
pub mod Cuts
pub mod Shown
pub mod Laws
pub mod Reading
pub mod Ends
pub mod Following
pub mod Drafts
pub mod Dividing
