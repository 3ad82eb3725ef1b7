-- Answers of is_place: with a bracket the bytes have to be an array and its cell, and without one a name.
use Rattle.trace_diagram.proofs.PlaceForms.{no_bracket, with_bracket}
use Rattle.trace_diagram.proofs.places.is_place.Goals as goal

pub returns-in-Some : goal.returns-in-Some
returns-in-Some c = with_bracket _ _ _ c.is_cell.result c.in-Some.ensures c.is_cell.ensures

pub returns-in-None : goal.returns-in-None
returns-in-None c = no_bracket _ c.is_name.result c.in-None.ensures c.is_name.ensures
