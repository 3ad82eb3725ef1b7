-- Loops of note_layout: each item before this one fits the widths of its fields.
use Rattle.std.proofs.Common.{All, take}
use Rattle.code_file.specs.Laws.{IsItem}
use Rattle.code_file.proofs.widths.note_layout.Given as goal

abbrev pub invariant-loop-item : goal.invariant-loop-item
invariant-loop-item l = All IsItem (take l.item-index l.items)
