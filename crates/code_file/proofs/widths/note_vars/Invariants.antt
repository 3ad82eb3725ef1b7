-- Loops of note_vars: each variable before this one fits the widths of its fields.
use Rattle.std.proofs.Common.{All, take}
use Rattle.code_file.specs.Laws.{VarFits}
use Rattle.code_file.proofs.widths.note_vars.Given as goal

abbrev pub invariant-loop-var : goal.invariant-loop-var
invariant-loop-var l = All VarFits (take l.var-index l.vars)
