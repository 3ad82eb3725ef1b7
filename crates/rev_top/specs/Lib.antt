-- Definitions of rev_top: the top call with its promises.
pub mod Accepted
pub mod Delivery
pub mod Findings
pub mod Kernels
pub mod Making
pub mod Promises
pub mod RanLaws
pub mod Rans
pub mod Statuses
pub mod StreamLaws
pub mod Streaming
pub mod TextLaws
pub mod Writes
