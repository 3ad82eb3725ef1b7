-- Loops of tries: the total plus the TryJoins of the blocks left is that of all, up to the greatest number.
use Rattle.std.proofs.Common.{◌≡◌, ◌+◌, ◌≤◌, min, drop}
use Rattle.code_file.specs.Parts.{tries}
use Rattle.code_file.proofs.count.tries.Given as goal

abbrev pub invariant-loop-block : goal.invariant-loop-block
invariant-loop-block l = record {
  total : min (l.total + tries (drop l.block-index l.blocks)) 18446744073709551615
      ≡ min (tries l.blocks) 18446744073709551615;
  fits : l.total ≤ 18446744073709551615;
}
