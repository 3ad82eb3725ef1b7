-- Proofs of trace_diagram: traces, their text both ways, and where the trace begins in a source that holds a
-- text and a trace.
pub mod Cutting
pub mod Faults
pub mod TextLines
pub mod Spelling
pub mod PlaceForms
pub mod LineForms
pub mod EndForms
pub mod Stages
pub mod Partials
pub mod OneLines
pub mod LineOrder
pub mod Reading
pub mod ChangeForms
pub mod Forks
pub mod OneText
pub mod Dividing
