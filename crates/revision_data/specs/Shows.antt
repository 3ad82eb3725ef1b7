-- What is shown of a variable, by its row in the checker's table.
use Rattle.std.specs.Prelude.{List, [], ◌∷◌, Bool, true, false, None}
use Rattle.rev_num.specs.declared.outcome.Shown.{Shown}
use Rattle.name_tables.specs.Names.{Name}
use Rattle.typed_programs.specs.declared.shared_info.SharedInfo.{SharedInfo}
use Rattle.revision_calculus.specs.State.{Location, view_at}
use Rattle.revision_calculus.specs.Outcome.{show_cells}

-- the values of an array, or that of a scalar
abbrev pub shown_by : Bool → Name → SharedInfo → List Location → List Shown
shown_by true name row locations = show_cells name locations row.base 0 row.cells
shown_by false name row locations =
    record { name = name; cell = None; value = view_at locations row.base } ∷ []

-- the values of the variable of this name, which has this row
abbrev pub shown_of : Name → SharedInfo → List Location → List Shown
shown_of name row locations = shown_by row.array name row locations
