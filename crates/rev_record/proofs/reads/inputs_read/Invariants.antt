-- `inputs_read`: one position after another.
use Rattle.version_map.specs.Deltas.{at}
use Rattle.rev_record.specs.Words.{HasGiven}
use Rattle.rev_record.proofs.reads.inputs_read.Given as goal

abbrev pub invariant-loop-position : goal.invariant-loop-position
invariant-loop-position l = HasGiven (at l.noted) l.inputs l.position l.read.items
