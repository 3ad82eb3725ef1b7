-- Loops of compose: the changes so far, put into the locations, with what the rest composes to, are what all does.
use Rattle.std.proofs.Common.{◌≡◌, length, take, drop}
use Rattle.rev_syntax.specs.View.{program as whole}
use Rattle.revision_calculus.specs.Join as join
use Rattle.joined_locations.specs.Changes.{put, in_front}
use Rattle.joined_locations.proofs.changes.compose.Given as goal

abbrev pub invariant-loop-n : goal.invariant-loop-n
invariant-loop-n l = record {
  count : length l.changes.items ≡ l.n;
  composed : in_front (put (take l.n l.joiner) l.changes.items)
      (join.compose (whole l.typed.expanded.program) l.n (drop l.n l.merges) (drop l.n l.joiner) (drop l.n l.joinee))
      ≡ join.compose (whole l.typed.expanded.program) 0 l.merges l.joiner l.joinee;
}
