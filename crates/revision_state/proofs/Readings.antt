-- Cells of shared variables by their rows and indices.
use Rattle.std.proofs.Common.{◌≡◌, ◌+◌, ℤ, pos, negsuc, Bool, true, false, cond, ltb, Option, Some, None, option_map, Ok, Err, refl}
use Rattle.rev_num.specs.declared.outcome.Cause.TheVariants as cause
use Rattle.name_tables.specs.Names.{Name}
use Rattle.typed_programs.specs.Layout.{SharedVariable, variables}
use Rattle.revision_calculus.specs.Program.{variable_named, Setting}
use Rattle.revision_calculus.specs.Evaluation.{location_in, location_of, cell_location}
use Rattle.revision_data.specs.Reading.{behind, location_at}
use Rattle.revision_state.specs.Tables.{info_of}

in_row : (x : SharedVariable) (z : ℤ) → location_at (Some x.info) z ≡ location_in x z
in_row x (negsuc i) = refl
in_row x (pos i) = by (ltb i x.info.cells)
  where
    by : (b : Bool) → behind x.info.base (cond b (Some i) None) ≡ cond b (Ok (x.info.base + i)) (Err cause.Index)
    by true = refl
    by false = refl

location_row : (o : Option SharedVariable) (z : ℤ) → location_at (option_map (λ x. x.info) o) z ≡ location_of o z
location_row None z = refl
location_row (Some x) z = in_row x z

-- the location of a cell is where its row says
pub cell_location_at : (s : Setting) (name : Name) (z : ℤ)
    → location_at (info_of s.program name) z ≡ cell_location s name z
cell_location_at s name z = location_row (variable_named (variables s.program) name) z
