-- Loops of changes_of: the changes so far, with those of the places and locations left, are all changes.
use Rattle.std.proofs.Common.{◌≡◌, ◌++◌, drop}
use Rattle.audit_rules.specs.Parts.{changes}
use Rattle.trace_parts.proofs.parts.changes_of.Given as goal

abbrev pub invariant-loop-n : goal.invariant-loop-n
invariant-loop-n l =
    l.changes.items ++ changes (drop l.n l.places) (drop l.n l.locations) ≡ changes l.places l.locations
