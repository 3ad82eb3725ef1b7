-- Proofs of emit_code: writes the code of expressions, and of statements of every form.
pub mod Forms
pub mod Tasks
pub mod Trees
pub mod Items
pub mod Arms
pub mod BlockForms
pub mod Landing
pub mod Loops
