-- The places of the locations of code.
use Rattle.std.proofs.Common.{◌≡◌, ◌∙◌, ℕ, zero, suc, ◌+◌, Bool, true, false, ◌&&◌, List, [], ◌∷◌, ◌++◌, length, map, Some, None, refl, sym, ap, arith, nat_eq, length-append}
use Rattle.std.proofs.lemmas.Bool.{and_parts}
use Rattle.std.proofs.lemmas.Bool.Decides.{nat_tests}
use Rattle.std.proofs.lemmas.List.{map-append, length-replicate}
use Rattle.std.specs.Prelude.{if◌then◌else◌, replicate}
use Rattle.std.specs.List.{list_all}
use Rattle.rev_num.specs.Path.{Path}
use Rattle.rev_num.specs.declared.outcome.Shown.{Shown}
use Rattle.rev_report.specs.Outcome.{place_of}
use Rattle.rev_code.specs.declared.code.Code.{Code}
use Rattle.rev_code.specs.declared.code.CodeVar.{CodeVar}
use Rattle.rev_code.specs.State.{Location}
use Rattle.code_rules.specs.Tables.{blocks_well, lines_well, is_name, has_cells, is_start, merges_well, is_var}
use Rattle.code_soundness.specs.Typed.{location_kinds}
use Rattle.code_soundness.proofs.Accepting.{no_fault_accepted}
use Rattle.code_machine.specs.Outcome.{value_at, show_cells, show_variable, show_all}
use Rattle.code_traces.specs.Parts.{cell_places, variable_places, places, EachHasPlace, ShownByPlaces}

-- ---- one for each location

cells_many : (name : List ℕ) (cell count : ℕ) → length (cell_places name cell count) ≡ count
cells_many name cell zero = refl
cells_many name cell (suc n) = ap suc (cells_many name (suc cell) n)

one_cell : (n : ℕ) → nat_eq n 1 ≡ true → n ≡ 1
one_cell n e = grind (arith, nat_tests, e)

variable_many : (x : CodeVar) → has_cells x.array x.cells ≡ true → length (variable_places x) ≡ x.cells
variable_many x = by x.array
  where
    by : (d : Bool) → has_cells d x.cells ≡ true
        → length (if d then cell_places x.name 0 x.cells else place_of x.name None ∷ []) ≡ x.cells
    by true h = cells_many x.name 0 x.cells
    by false h = sym (one_cell x.cells h)

has_its_cells : (code : Code) (x : CodeVar) → is_var code x ≡ true → has_cells x.array x.cells ≡ true
has_its_cells code x h =
    let a = and_parts (is_name x.name && has_cells x.array x.cells && is_start x.kind x.start) (merges_well code x) h in
    let b = and_parts (is_name x.name && has_cells x.array x.cells) (is_start x.kind x.start) a.0 in
    (and_parts (is_name x.name) (has_cells x.array x.cells) b.0).1

all_many : (code : Code) (xs : List CodeVar) → list_all (is_var code) xs ≡ true
    → length (places xs) ≡ length (location_kinds xs)
all_many code [] h = refl
all_many code (x ∷ xs) h =
    let p = and_parts (is_var code x) (list_all (is_var code) xs) h in
    length-append (variable_places x) (places xs)
    ∙ (let a = variable_many x (has_its_cells code x p.0) ∙ sym (length-replicate x.cells x.kind) in
    let b = all_many code xs p.1 in
    λ i. a i + b i)
    ∙ sym (length-append (replicate x.cells x.kind) (location_kinds xs))

pub each_has_place : EachHasPlace
each_has_place g ok =
    let code : Code = g.code in
    let named = (no_fault_accepted g.code ok).named in
    let a = and_parts (blocks_well code && list_all (is_var code) code.vars) (lines_well code) named in
    all_many code code.vars (and_parts (blocks_well code) (list_all (is_var code) code.vars) a.0).1

-- ---- the names of an outcome

module _ (path : ℕ → Path) (ls : List (Location ℕ)) where
  abbrev place : Shown → List ℕ
  place x = place_of x.name x.cell

  cells_shown : (name : List ℕ) (base cell count : ℕ)
      → map (λ x. place_of x.name x.cell) (show_cells path name ls base cell count) ≡ cell_places name cell count
  cells_shown name base cell zero = refl
  cells_shown name base cell (suc n) =
      let later = cells_shown name base (suc cell) n in λ i. place_of name (Some cell) ∷ later i

  variable_shown : (base : ℕ) (x : CodeVar)
      → map (λ x. place_of x.name x.cell) (show_variable path ls base x) ≡ variable_places x
  variable_shown base x = by x.array
    where
      by : (d : Bool)
          → map (λ x. place_of x.name x.cell)
          (if d then show_cells path x.name ls base 0 x.cells
          else record { name = x.name; cell = None; value = value_at path ls base } ∷ [])
          ≡ (if d then cell_places x.name 0 x.cells else place_of x.name None ∷ [])
      by true = cells_shown x.name base 0 x.cells
      by false = refl

  all_shown : (base : ℕ) (xs : List CodeVar) → map (λ x. place_of x.name x.cell) (show_all path ls base xs) ≡ places xs
  all_shown base [] = refl
  all_shown base (x ∷ xs) =
      let a = variable_shown base x in let b = all_shown (base + x.cells) xs in
      map-append place (show_variable path ls base x) (show_all path ls (base + x.cells) xs) ∙ (λ i. a i ++ b i)

pub shown_by_places : ShownByPlaces
shown_by_places path ls xs = all_shown path ls 0 xs
