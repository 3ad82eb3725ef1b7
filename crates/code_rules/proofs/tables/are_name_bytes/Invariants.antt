-- Loops of are_name_bytes: whether all bytes may stand in a name hangs on the bytes left alone.
use Rattle.std.proofs.Common.{◌≡◌, drop}
use Rattle.std.specs.List.{list_all}
use Rattle.code_rules.specs.Tables as tables
use Rattle.code_rules.proofs.tables.are_name_bytes.Given as goal

abbrev pub invariant-loop-c : goal.invariant-loop-c
invariant-loop-c l = list_all tables.is_name_byte l.bytes ≡ list_all tables.is_name_byte (drop l.c-index l.bytes)
