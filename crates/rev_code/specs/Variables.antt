-- Where the shared variables of code lie.
--   Place           a variable and its first location
--   scalar, array   the place of the variable of that number, if it is one
--   cell_at         the location of a cell, if the index is inside
use Rattle.std.specs.Prelude.{ℕ, zero, suc, ◌+◌, ℤ, pos, negsuc, if◌then◌else◌, nat_lt, List, [], ◌∷◌, ◌++◌, replicate, Option, Some, None}
use Rattle.rev_code.specs.declared.code.CodeVar.{CodeVar}
use Rattle.rev_code.specs.Words.{start_word}
use Rattle.rev_code.specs.State.{Location}

pub record Place : Type 0 where
  pub var : CodeVar
  pub first : ℕ

-- the place of the variable of that number, where the first of these has this location
abbrev pub place_from : ℕ → List CodeVar → ℕ → Option Place
place_from first [] n = None
place_from first (v ∷ vs) zero = Some (record { var = v; first = first })
place_from first (v ∷ vs) (suc n) = place_from (first + v.cells) vs n

abbrev pub if_scalar : Option Place → Option Place
if_scalar None = None
if_scalar (Some p) = if p.var.array then None else Some p

abbrev pub if_array : Option Place → Option Place
if_array None = None
if_array (Some p) = if p.var.array then Some p else None

abbrev pub scalar : List CodeVar → ℕ → Option Place
scalar vs n = if_scalar (place_from 0 vs n)

abbrev pub array : List CodeVar → ℕ → Option Place
array vs n = if_array (place_from 0 vs n)

-- None where the index is below 0, or not below the number of cells
abbrev pub cell_at : Place → ℤ → Option ℕ
cell_at p (pos i) = if nat_lt i p.var.cells then Some (p.first + i) else None
cell_at p (negsuc i) = None

-- all locations, with their start values as the snapshot and nothing written
abbrev pub start_locations : {H : Type 0} → List CodeVar → List (Location H)
start_locations [] = []
start_locations (v ∷ vs) =
    replicate v.cells (record { snapshot = start_word v.kind v.start; written = None }) ++ start_locations vs
