-- Loops of note_layouts: each item of each layout before this one fits the widths of its fields.
use Rattle.std.proofs.Common.{All, take}
use Rattle.code_file.specs.Laws.{IsItem}
use Rattle.code_file.proofs.widths.note_layouts.Given as goal

abbrev pub invariant-loop-layout : goal.invariant-loop-layout
invariant-loop-layout l = All (All IsItem) (take l.layout-index l.layouts)
