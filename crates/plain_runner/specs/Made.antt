-- The parts of the revisions of a state, by the places of the locations.
use Rattle.std.specs.Prelude.{ℕ, List, [], ◌∷◌}
use Rattle.revision_machine.specs.declared.state.RevisionRow.{RevisionRow}
use Rattle.revision_calculus.specs.State.{Local}
use Rattle.trace_diagram.specs.declared.diagram.Part.{Part}
use Rattle.trace_parts.specs.PartOfRevision.{part_by}

-- the parts of these revisions
abbrev pub parts_by : List (List ℕ) → List (RevisionRow Local) → List Part
parts_by places [] = []
parts_by places (x ∷ xs) = part_by places x.path x.state ∷ parts_by places xs
