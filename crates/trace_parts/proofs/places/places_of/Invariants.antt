-- Loops of places_of: the places so far are those of the first values that are shown.
use Rattle.std.proofs.Common.{◌≡◌, take, map}
use Rattle.rev_report.specs.Outcome.{place_of}
use Rattle.trace_parts.proofs.places.places_of.Given as goal

abbrev pub invariant-loop-one : goal.invariant-loop-one
invariant-loop-one l = l.places.items ≡ map (λ x. place_of x.name x.cell) (take l.one-index l.one-items)
