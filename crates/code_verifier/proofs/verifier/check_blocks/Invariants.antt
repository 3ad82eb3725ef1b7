-- Loops of check_blocks: all costs so far are cheap, and the fault of the blocks left behind them is that of all.
use Rattle.std.proofs.Common.{◌≡◌, drop, []}
use Rattle.code_rules.specs.Pass.{blocks_fault}
use Rattle.code_verifier.specs.Spending.{AllCheap}
use Rattle.code_verifier.proofs.verifier.check_blocks.Given as goal

abbrev pub invariant-loop-number : goal.invariant-loop-number
invariant-loop-number l = record {
  cheap : AllCheap l.costs.items;
  rest :
      blocks_fault l.code [] 0 l.code.blocks ≡ blocks_fault l.code l.costs.items l.number (drop l.number l.code.blocks);
}
