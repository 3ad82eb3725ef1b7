-- Loops of places_of: the places so far, with those of the variables left, are the places of all locations.
use Rattle.std.proofs.Common.{◌≡◌, ◌++◌, drop}
use Rattle.code_traces.specs.Parts.{places}
use Rattle.code_traces.proofs.tables.places_of.Given as goal

-- the later variables are still to come
abbrev pub invariant-loop-at : goal.invariant-loop-at
invariant-loop-at l = l.list.items ++ places (drop l.at l.variables) ≡ places l.variables
