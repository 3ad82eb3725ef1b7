-- Loops of all_texts: whether all bytes may stand in a text hangs on the texts left alone.
use Rattle.std.proofs.Common.{◌≡◌, drop}
use Rattle.std.specs.List.{list_all}
use Rattle.code_rules.specs.Tables as tables
use Rattle.code_rules.proofs.tables.all_texts.Given as goal

abbrev pub invariant-loop-text : goal.invariant-loop-text
invariant-loop-text l =
    list_all (list_all tables.is_text_byte) l.texts
    ≡ list_all (list_all tables.is_text_byte) (drop l.text-index l.texts)
