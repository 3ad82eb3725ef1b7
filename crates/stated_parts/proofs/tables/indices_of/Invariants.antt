-- Loops of indices_of: the table has the numbers of the parts so far.
use Rattle.std.proofs.Common.{take}
use Rattle.revision_machine.specs.PathIndex.{IsIndexed}
use Rattle.audit_rules.specs.Traces.{paths_of}
use Rattle.stated_parts.proofs.tables.indices_of.Given as goal

abbrev pub invariant-loop-i : goal.invariant-loop-i
invariant-loop-i l = IsIndexed l.table.map (paths_of (take l.i l.parts))
