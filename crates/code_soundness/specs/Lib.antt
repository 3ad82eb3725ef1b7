-- Definitions of code_soundness: accepted code has certificates and never fails when it runs, funs and merges
-- have values, and a leg ends.
pub mod Certificate
pub mod Prices
pub mod Paid
pub mod OncePerCharge
pub mod Typed
pub mod AcceptedCode
pub mod Funs
pub mod Safe
pub mod Uses
