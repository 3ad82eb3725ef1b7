-- Loops of kinds_of: the kinds so far, with those of the variables left, are the kinds of all locations.
use Rattle.std.proofs.Common.{◌≡◌, ◌++◌, drop}
use Rattle.code_soundness.specs.Typed.{location_kinds}
use Rattle.code_traces.proofs.tables.kinds_of.Given as goal

-- the later variables are still to come
abbrev pub invariant-loop-at : goal.invariant-loop-at
invariant-loop-at l = l.list.items ++ location_kinds (drop l.at l.variables) ≡ location_kinds l.variables
