-- Loops of read_parts: what was read of the bytes is the draft, and the rest stands behind it.
use Rattle.std.proofs.Common.{length}
use Rattle.trace_diagram.specs.Drafts.{HasRead, partial_of}
use Rattle.trace_diagram.proofs.reader.read_parts.Given as goal

abbrev pub invariant-loop-line : goal.invariant-loop-line
invariant-loop-line l = HasRead l.bytes (partial_of l.draft) l.rest

abbrev pub decreases-loop-line : goal.decreases-loop-line
decreases-loop-line l = length l.rest
