-- Definitions of code_traces: the outcome and the trace of code, by one run; and what the trace of a world of
-- code is, which for a program's code is that of the program.
pub mod Parts
pub mod Traces
pub mod Rows
pub mod NotedParts
pub mod Traced
