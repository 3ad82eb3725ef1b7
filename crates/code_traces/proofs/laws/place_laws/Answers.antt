-- Answers of place_laws: two lemmas, that each location has a place, and that an outcome shows its values by these.
use Rattle.code_traces.proofs.Names.{each_has_place, shown_by_places}
use Rattle.code_traces.proofs.laws.place_laws.Goals as goal

pub returns-clause-each : goal.returns-clause-each
returns-clause-each c = each_has_place

pub returns-clause-shown : goal.returns-clause-shown
returns-clause-shown c = shown_by_places
