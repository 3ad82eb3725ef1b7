-- Loops of parts_of: the first notes are left, and the parts so far with theirs are those of the world in some order.
use Rattle.std.proofs.Common.{◌≡◌, ◌++◌, length, take}
use Rattle.std.specs.List.Sorted.{IsPermutation}
use Rattle.revision_machine.specs.Numbered.{Entries, paths_of}
use Rattle.code_machine.specs.Local.{Local}
use Rattle.code_world.specs.Endings.{Names}
use Rattle.rev_vm.specs.Starts.{run_under}
use Rattle.world_runs.specs.Notes.{AreNoted}
use Rattle.code_traces.specs.NotedParts.{AreOver, world_parts}
use Rattle.std.specs.Prelude.{ℕ}
use Rattle.code_traces.proofs.listing.parts_of.Given as goal

-- the first notes are left, whose parts are still to come
abbrev pub invariant-loop-noted : goal.invariant-loop-noted
invariant-loop-noted l = record {
  left : l.rest.items ≡ take (length l.rest.items) l.initial.rest.items;
  parts : (w : Entries (Local ℕ)) → Names l.births (paths_of w) → AreNoted (run_under l.setting) w l.initial.rest.items
      → AreOver w
      → IsPermutation (world_parts (run_under l.setting) w)
      (l.parts.items ++ take (length l.rest.items) (world_parts (run_under l.setting) w));
}

abbrev pub decreases-loop-noted : goal.decreases-loop-noted
decreases-loop-noted l = length l.rest.items
