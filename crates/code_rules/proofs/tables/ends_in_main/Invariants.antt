-- Loops of ends_in_main: whether main is the last block and no other hangs on the blocks left alone.
use Rattle.std.proofs.Common.{◌≡◌, drop}
use Rattle.code_rules.specs.Tables as tables
use Rattle.code_rules.proofs.tables.ends_in_main.Given as goal

abbrev pub invariant-loop-i : goal.invariant-loop-i
invariant-loop-i l = tables.ends_in_main l.blocks ≡ tables.ends_in_main (drop l.i l.blocks)
