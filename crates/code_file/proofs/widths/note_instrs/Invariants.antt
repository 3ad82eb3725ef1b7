-- Loops of note_instrs: each instruction before this one fits the widths of its fields.
use Rattle.std.proofs.Common.{All, take}
use Rattle.code_file.specs.Laws.{IsInstr}
use Rattle.code_file.proofs.widths.note_instrs.Given as goal

abbrev pub invariant-loop-x : goal.invariant-loop-x
invariant-loop-x l = All IsInstr (take l.x-index l.instrs)
