-- Loops of read_forks: the numbers so far and the rest spell the bytes, and all that spell them begin so.
use Rattle.std.proofs.Common.{◌≡◌, length}
use Rattle.trace_diagram.specs.Lines.{FitsPath}
use Rattle.trace_diagram.proofs.Forks.{AllBegin, dotted}
use Rattle.trace_diagram.proofs.spelled.read_forks.Given as goal

abbrev pub invariant-loop-front : goal.invariant-loop-front
invariant-loop-front l = record {
  fit : FitsPath l.forks.items;
  so_far : dotted l.forks.items l.rest ≡ l.bytes;
  begin : AllBegin l.bytes l.forks.items l.rest;
}

abbrev pub decreases-loop-front : goal.decreases-loop-front
decreases-loop-front l = length l.rest
