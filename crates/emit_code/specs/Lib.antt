-- Definitions of emit_code: writes the code of expressions, and of statements of every form.
pub mod Naming
pub mod Work
pub mod Written
pub mod Bodies
