-- Loops of tries_in: the total plus the TryJoins of the instructions left is that of all, up to the greatest number.
use Rattle.std.proofs.Common.{◌≡◌, ◌+◌, ◌≤◌, min, drop}
use Rattle.code_file.specs.Parts.{tries_in}
use Rattle.code_file.proofs.count.tries_in.Given as goal

abbrev pub invariant-loop-instr : goal.invariant-loop-instr
invariant-loop-instr l = record {
  total : min (l.total + tries_in (drop l.instr-index l.instrs)) 18446744073709551615
      ≡ min (tries_in l.instrs) 18446744073709551615;
  fits : l.total ≤ 18446744073709551615;
}
