-- Loops of append_blocks: the output so far, with the numbered lines of the blocks left, is the whole output.
use Rattle.std.proofs.Common.{◌≡◌, ◌++◌, drop}
use Rattle.code_listing.specs.Listing.{block_lines, numbered}
use Rattle.code_listing.proofs.listing.append_blocks.Given as goal

abbrev pub invariant-loop-n : goal.invariant-loop-n
invariant-loop-n l =
    l.out.items ++ numbered block_lines l.n (drop l.n l.blocks) ≡ l.fn.out.items ++ numbered block_lines 0 l.blocks
