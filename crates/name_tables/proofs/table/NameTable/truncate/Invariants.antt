-- Loops of NameTable::truncate: the index stands for the entries, and the first that are kept are those at first.
use Rattle.std.proofs.Common.{◌≡◌, take, length}
use Rattle.name_tables.specs.Table.{IsIndexed, rows}
use Rattle.name_tables.proofs.table.NameTable.truncate.Given as goal

abbrev pub invariant-loop-self : goal.invariant-loop-self
invariant-loop-self g l =
    IsIndexed l.self-inside.short l.self-inside.long (rows l.self-inside.entries.items)
    × (take l.len (rows l.self-inside.entries.items) ≡ take l.len (rows l.initial.self-inside.entries.items))

abbrev pub decreases-loop-self : goal.decreases-loop-self
decreases-loop-self g l = length l.self-inside.entries.items
