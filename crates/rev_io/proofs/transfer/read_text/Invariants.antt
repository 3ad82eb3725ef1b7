-- Loops of read_text: the text is what the source gave, with at most one byte past the limit.
use Rattle.std.proofs.Common.{length, ◌-◌, ◌+◌, ◌≤◌}
use Rattle.rev_io.specs.Stream.{Gave}
use Rattle.rev_io.proofs.transfer.read_text.Given as goal

-- the text is what the source gave, with at most one byte past the limit
abbrev pub invariant-loop-piece : goal.invariant-loop-piece
invariant-loop-piece g l = record {
  gave : Gave (g.S.Source.stream l.fn.source) l.text.items (g.S.Source.stream l.source);
  most : length l.text.items ≤ l.limit + 1;
}

abbrev pub decreases-loop-piece : goal.decreases-loop-piece
decreases-loop-piece g l = l.limit + 1 - length l.text.items
