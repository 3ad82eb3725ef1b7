-- Loops of joiners_of: the table has for each revision the first part from this one on that lists it as joined.
use Rattle.std.proofs.Common.{◌≡◌, ◌≤◌, drop, length}
use Rattle.rev_num.specs.Path.{Path}
use Rattle.revision_machine.specs.PathIndex.{place_by}
use Rattle.stated_parts.specs.Tables.{joiner_from}
use Rattle.stated_parts.proofs.tables.joiners_of.Given as goal

abbrev pub invariant-loop-i : goal.invariant-loop-i
invariant-loop-i l = record {
  within : l.i ≤ length l.parts;
  so_far : (q : Path) → place_by l.table.map q ≡ joiner_from l.i (drop l.i l.parts) q;
}

abbrev pub decreases-loop-i : goal.decreases-loop-i
decreases-loop-i l = l.i
