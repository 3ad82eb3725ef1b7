-- Loops of write_all: putting the changes left gives what putting all of them into the locations at first gives.
use Rattle.std.proofs.Common.{◌≡◌, vec_len}
use Rattle.joined_locations.specs.Changes.{put}
use Rattle.joined_locations.proofs.changes.write_all.Given as goal

abbrev pub invariant-loop-change : goal.invariant-loop-change
invariant-loop-change l = put l.locations l.changes.items ≡ put l.initial.locations l.initial.changes.items

abbrev pub decreases-loop-change : goal.decreases-loop-change
decreases-loop-change l = vec_len l.changes
