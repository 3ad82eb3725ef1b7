-- Loops of feeds_of: the places so far are those of the line feeds among the bytes so far.
use Rattle.std.proofs.Common.{◌≡◌, take}
use Rattle.rev_expressions.specs.Source.{feeds_from}
use Rattle.rev_expressions.proofs.source.feeds_of.Given as goal

-- the line feeds among the bytes so far
abbrev pub invariant-loop-at : goal.invariant-loop-at
invariant-loop-at l = l.feeds.items ≡ feeds_from 0 (take l.at l.bytes)
