-- Loops of enter_joins: a revision that the events so far list has the number, and any other what it had at first.
use Rattle.std.proofs.Common.{◌≡◌, Some, take}
use Rattle.std.specs.Prelude.{if◌then◌else◌}
use Rattle.rev_num.specs.Path.{Path}
use Rattle.revision_machine.specs.PathIndex.{place_by}
use Rattle.stated_parts.specs.Tables.{lists}
use Rattle.stated_parts.proofs.tables.enter_joins.Given as goal

abbrev pub invariant-loop-event : goal.invariant-loop-event
invariant-loop-event l =
    (q : Path) → place_by l.table.map q
    ≡ (if lists (take l.event-index l.events) q then Some l.number else place_by l.initial.table.map q)
