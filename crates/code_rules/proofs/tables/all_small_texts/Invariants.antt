-- Loops of all_small_texts: whether all texts are small hangs on the texts left alone.
use Rattle.std.proofs.Common.{◌≡◌, drop}
use Rattle.std.specs.List.{list_all}
use Rattle.code_rules.specs.Tables as tables
use Rattle.code_rules.proofs.tables.all_small_texts.Given as goal

abbrev pub invariant-loop-text : goal.invariant-loop-text
invariant-loop-text l =
    list_all tables.is_small_text l.texts ≡ list_all tables.is_small_text (drop l.text-index l.texts)
