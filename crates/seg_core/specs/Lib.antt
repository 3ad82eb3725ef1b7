-- Definitions of seg_core: shared segments and their counts, as plain data.
pub mod Core
pub mod Steps
pub mod Shape
pub mod Cells
pub mod Applies
pub mod States
