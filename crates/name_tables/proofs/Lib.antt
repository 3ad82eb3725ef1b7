-- Proofs of name_tables: names, and tables from names to values.
pub mod Tables
