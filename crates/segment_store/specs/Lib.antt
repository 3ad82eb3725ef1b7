-- Definitions of segment_store: shared segments on atomic words.
pub mod Act
pub mod Entry
pub mod First
pub mod Places
pub mod Store
pub mod Base
pub mod Filling
pub mod Same
pub mod Own
pub mod Shown
pub mod Rule
pub mod Live
pub mod Names
pub mod Group
pub mod Depth
pub mod Closing
