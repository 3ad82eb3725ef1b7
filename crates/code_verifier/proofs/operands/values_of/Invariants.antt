-- Loops of values_of: the kinds are those of the values among the items so far.
use Rattle.std.proofs.Common.{◌≡◌, take}
use Rattle.rev_code.specs.Printing.{printed_kinds}
use Rattle.code_verifier.proofs.operands.values_of.Given as goal

abbrev pub invariant-loop-item : goal.invariant-loop-item
invariant-loop-item l = l.kinds.items ≡ printed_kinds (take l.item-index l.items)
