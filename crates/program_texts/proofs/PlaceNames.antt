-- Whether bytes name a location.
use Rattle.std.proofs.Common.{◌⊎◌, inl, inr, subst, Bool, true, false, ℕ, List, [], ◌∷◌, refl}
use Rattle.std.specs.Prelude.{MatchBool, ◌&&◌}
use Rattle.trace_diagram.specs.Cuts.{IsCut}
use Rattle.rev_syntax.specs.Words.{is_name}
use Rattle.trace_diagram.specs.Places.{HasCell, IsPlace, is_plain}
use Rattle.trace_diagram.proofs.PlaceForms.{is_cell_by, more_behind, no_bracket, no_closing, with_bracket}
use Rattle.program_texts.proofs.Deciding.{Pieces, last_piece, next_piece, Readable, Reader, spells, spells_none, pieces}

decided : (P : Type 0) (t : Bool) → MatchBool t P (P → ⊥) → P ⊎ (P → ⊥)
decided P true h = inl h
decided P false h = inr h

told : (P : Type 0) → P ⊎ (P → ⊥) → (t : Bool) × MatchBool t P (P → ⊥)
told P (inl h) = (true, h)
told P (inr h) = (false, h)

-- ---- a cell

cell_behind : (array cell index rest : List ℕ) → IsCut 93 cell index rest
    → HasCell array cell ⊎ (HasCell array cell → ⊥)
cell_behind array cell index [] cut =
    decided (HasCell array cell) (is_name array && is_plain index)
    (is_cell_by array cell index [] (is_name array) (is_plain index) refl refl cut refl)
cell_behind array cell index (c ∷ rest) cut = inr (more_behind array cell index (c ∷ rest) cut (λ none. cc))

cell_or_not : (array cell : List ℕ) → Pieces 93 cell → HasCell array cell ⊎ (HasCell array cell → ⊥)
cell_or_not array cell (last_piece bytes none) = inr (no_closing array bytes none)
cell_or_not array cell (next_piece bytes index rest cut later) = cell_behind array bytes index rest cut

-- ---- a place

place_by : (bytes array cell : List ℕ) → IsCut 91 bytes array cell
    → (t : Bool) × MatchBool t (HasCell array cell) (HasCell array cell → ⊥) → IsPlace bytes ⊎ (IsPlace bytes → ⊥)
place_by bytes array cell cut h = decided (IsPlace bytes) h.0 (with_bracket bytes array cell h.0 cut h.1)

pub place_or_not : (bytes : List ℕ) → Pieces 91 bytes → IsPlace bytes ⊎ (IsPlace bytes → ⊥)
place_or_not bytes (last_piece bs none) = decided (IsPlace bs) (is_name bs) (no_bracket bs (is_name bs) none refl)
place_or_not bytes (next_piece bs array cell cut later) =
    place_by bs array cell cut (told (HasCell array cell) (cell_or_not array cell (pieces 93 cell)))

abbrev pub place_text : List ℕ → List ℕ
place_text place = place

pub read_place : Reader IsPlace place_text
read_place bytes = by_place (place_or_not bytes (pieces 91 bytes))
  where
    by_place : IsPlace bytes ⊎ (IsPlace bytes → ⊥) → Readable IsPlace place_text bytes
    by_place (inl place) = spells bytes place refl
    by_place (inr none) = spells_none (λ place h is. none (subst IsPlace is h))
