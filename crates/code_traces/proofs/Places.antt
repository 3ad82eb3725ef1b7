-- The names of the locations of a program's code are those of its shared variables.
use Rattle.std.proofs.Common.{◌≡◌, ◌∙◌, ℕ, zero, suc, Bool, true, false, List, [], ◌∷◌, ◌++◌, map, Some, None, refl, sym}
use Rattle.std.proofs.lemmas.List.{map-append}
use Rattle.std.specs.Prelude.{if◌then◌else◌}
use Rattle.rev_report.specs.Outcome.{place_of}
use Rattle.rev_syntax.specs.Trees.{Declaration}
use Rattle.name_tables.specs.Names.{Name}
use Rattle.typed_programs.specs.Layout.{SharedVariable, variables}
use Rattle.revision_calculus.specs.Program.{Setting}
use Rattle.revision_calculus.specs.Outcome.{show_cells, show_variable, show_all}
use Rattle.code_generation.specs.Generated.{var_of}
use Rattle.program_meaning.specs.Related.{run_of}
use Rattle.audit_rules.specs.Parts as calculus_parts
use Rattle.audit_rules.proofs.PlacesApart.{place}
use Rattle.code_traces.specs.Parts.{cell_places, variable_places, places}

cells_named : (name : Name) (base cell count : ℕ)
    → cell_places name cell count ≡ map (λ x. place_of x.name x.cell) (show_cells name [] base cell count)
cells_named name base cell zero = refl
cells_named name base cell (suc n) =
    let later = cells_named name base (suc cell) n in λ i. place_of name (Some cell) ∷ later i

variable_named : (all : List Declaration) (x : SharedVariable)
    → variable_places (var_of all x) ≡ map (λ x. place_of x.name x.cell) (show_variable [] x x.info.array)
variable_named all x = by x.info.array
  where
    by : (d : Bool)
        → (if d then cell_places x.declared.name.text 0 x.info.cells else place_of x.declared.name.text None ∷ [])
        ≡ map (λ x. place_of x.name x.cell) (show_variable [] x d)
    by true = cells_named x.declared.name.text x.info.base 0 x.info.cells
    by false = refl

all_named : (all : List Declaration) (xs : List SharedVariable)
    → places (map (var_of all) xs) ≡ map (λ x. place_of x.name x.cell) (show_all xs [])
all_named all [] = refl
all_named all (x ∷ xs) =
    let a = variable_named all x in let b = all_named all xs in
    (λ i. a i ++ b i) ∙ sym (map-append place (show_variable [] x x.info.array) (show_all xs []))

pub same_places : (s : Setting) → places (run_of s).code.vars ≡ calculus_parts.places s
same_places s = all_named s.program.declarations (variables s.program)
