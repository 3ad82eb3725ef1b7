-- Loops of is_text: whether all bytes may stand in a text hangs on the bytes left alone.
use Rattle.std.proofs.Common.{◌≡◌, drop}
use Rattle.std.specs.List.{list_all}
use Rattle.code_rules.specs.Tables as tables
use Rattle.code_rules.proofs.tables.is_text.Given as goal

abbrev pub invariant-loop-c : goal.invariant-loop-c
invariant-loop-c l = list_all tables.is_text_byte l.text ≡ list_all tables.is_text_byte (drop l.c-index l.text)
