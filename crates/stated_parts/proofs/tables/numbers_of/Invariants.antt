-- Loops of numbers_of: the table finds each place at its number among the places so far.
use Rattle.std.proofs.Common.{◌≡◌, ℕ, List, take}
use Rattle.name_tables.specs.Table.{find}
use Rattle.audit_rules.specs.Parts.{number_of}
use Rattle.stated_parts.proofs.tables.numbers_of.Given as goal

abbrev pub invariant-loop-n : goal.invariant-loop-n
invariant-loop-n l = (place : List ℕ) → find place l.table ≡ number_of (take l.n l.places) place
