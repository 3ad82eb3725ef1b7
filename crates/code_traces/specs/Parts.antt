-- What the trace of a run of code tells of one revision, by whatever its handles are read as.
--   places       the names of all locations, in their order
--   event_of     an entry of the list of forks and joins
--   end_at       how it ended
--   change_of    a location that it wrote
--   part_by      its part
--   part_in      its part in a world by number, whose own paths the numbers are read as
--   EachHasPlace, ShownByPlaces
--                each location has a place, by which outcomes show it too
use Rattle.std.specs.Prelude.{◌≡◌, ℕ, zero, suc, List, [], ◌∷◌, ◌++◌, length, map, Option, Some, None, if◌then◌else◌}
use Rattle.rev_num.specs.Path.{Path}
use Rattle.rev_report.specs.Outcome.{place_of}
use Rattle.trace_diagram.specs.declared.diagram.Part.{Part}
use Rattle.trace_diagram.specs.declared.diagram.Change.{Change}
use Rattle.trace_diagram.specs.declared.diagram.PartEnd.{PartEnd}
use Rattle.trace_diagram.specs.declared.diagram.PartEnd.TheVariants as part_end
use Rattle.trace_diagram.specs.declared.diagram.TraceEvent.{TraceEvent}
use Rattle.trace_diagram.specs.declared.diagram.TraceEvent.TheVariants as event
use Rattle.audit_rules.specs.Parts.{place_at, cause_place}
use Rattle.version_map.specs.Composing.{Entry}
use Rattle.rev_code.specs.declared.code.CodeVar.{CodeVar}
use Rattle.rev_code.specs.Words.{Word}
use Rattle.rev_code.specs.State.{Location, Listed, forked, joined}
use Rattle.code_soundness.specs.Typed.{location_kinds}
use Rattle.code_machine.specs.Local.{CodeRun, IsVerified, Phase, running, done, trapped, Local, end_of}
use Rattle.code_machine.specs.Outcome.{value_of, show_all}
pub use Rattle.revision_machine.specs.Numbered.{path_in}

-- ---- places

-- the cells of an array from this one on, of which there are so many
abbrev pub cell_places : List ℕ → (cell : ℕ) → (count : ℕ) → List (List ℕ)
cell_places name cell zero = []
cell_places name cell (suc n) = place_of name (Some cell) ∷ cell_places name (suc cell) n

-- `name` of a scalar, and `name[i]` of each cell of an array
abbrev pub variable_places : CodeVar → List (List ℕ)
variable_places x = if x.array then cell_places x.name 0 x.cells else place_of x.name None ∷ []

-- of all locations, in their order
abbrev pub places : List CodeVar → List (List ℕ)
places [] = []
places (x ∷ xs) = variable_places x ++ places xs

-- ---- parts

module _ {H : Type 0} (path : H → Path) where
  abbrev pub event_of : Listed H → TraceEvent
  event_of (forked h line) = event.Forked (path h) line
  event_of (joined h line) = event.Joined (path h) line

  -- of the revision at r, which trapped itself where no other trapped first
  abbrev pub origin_at : Path → Option H → Path
  origin_at r None = r
  origin_at r (Some h) = path h

  -- of the revision at r; a trap in a merge has the place of its location, and other traps an empty
  -- one. After a complete schedule none is running.
  abbrev pub end_at : List (List ℕ) → Path → Phase H → PartEnd
  end_at ps r done = part_end.Done
  end_at ps r (trapped t) =
      part_end.Trapped (record { cause = t.cause; line = t.line; origin = origin_at r t.origin })
      (cause_place ps t.cause)
  end_at ps r running = part_end.Done

  -- the location's name, the value last written, and the value in the snapshot
  abbrev pub change_of : List (List ℕ) → Entry (Word H) → Change
  change_of ps e = record {
    place = place_at ps e.location;
    value = value_of path e.value;
    root = value_of path e.root;
  }

  -- of the revision at r
  abbrev pub part_by : CodeRun → Path → Local H → Part
  part_by g r l = record {
    path = r;
    events = map event_of l.state.listed;
    end = end_at (places g.code.vars) r l.phase;
    fuel = l.state.fuel;
    written = map (change_of (places g.code.vars)) (end_of l).written;
    text = l.state.text;
  }

-- ---- worlds by number

abbrev pub part_in : CodeRun → List Path → Path → Local ℕ → Part
part_in g paths r l = part_by (path_in paths) g r l

-- ---- laws

-- verified code has one place for each location
abbrev pub EachHasPlace : Type 0
EachHasPlace =
    (g : CodeRun) → IsVerified g
    → length (places g.code.vars) ≡ length (location_kinds g.code.vars)

-- under which an outcome shows the value of the location
abbrev pub ShownByPlaces : Type 0
ShownByPlaces =
    (path : ℕ → Path) (ls : List (Location ℕ)) (xs : List CodeVar)
    → map (λ x. place_of x.name x.cell) (show_all path ls 0 xs) ≡ places xs
