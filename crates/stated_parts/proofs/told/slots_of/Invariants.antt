-- Loops of slots_of: the changes from this one on fit, and the slots are those of these changes.
use Rattle.std.proofs.Common.{◌≡◌, ◌≤◌, true, drop, length}
use Rattle.revision_calculus.specs.Kinded.{location_kinds}
use Rattle.revision_state.specs.Views.{given}
use Rattle.audit_rules.specs.Parts.{changes_fit, places}
use Rattle.stated_parts.specs.Told.{slots_from}
use Rattle.stated_parts.proofs.told.slots_of.Given as goal

abbrev pub invariant-loop-j : goal.invariant-loop-j
invariant-loop-j l = record {
  within : l.j ≤ length l.changes;
  fit : changes_fit (places (given l.stated.setting)) (location_kinds (given l.stated.setting)) (drop l.j l.changes)
      ≡ true;
  so_far : l.slots.items ≡ slots_from 0 (places (given l.stated.setting)) (drop l.j l.changes);
}

abbrev pub decreases-loop-j : goal.decreases-loop-j
decreases-loop-j l = l.j
