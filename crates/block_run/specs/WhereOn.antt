-- What is noted where notes are on. Those that are off stay off, and need no places.
--   HasPlaces       notes of as many locations and of as many positions of the input as there are
--   HasPlacesIfOn   the same of notes that are on
--   HasMarkedIfOn   notes that are on have these marks more, and no others
--   HasNoted        the same after a call that notes, and after one that does not they are as they were
use Rattle.std.specs.Prelude.{ℕ, ◌≡◌, ◌<◌, ◌^◌, ℤ, Bool, true, false, List, length}
use Rattle.version_map.specs.Deltas.{locations}
use Rattle.block_run.specs.declared.notes.ReadMarks.{ReadMarks}
use Rattle.block_run.specs.declared.notes.Notes.{Notes}
use Rattle.block_run.specs.declared.notes.Notes.TheVariants as notes
use Rattle.block_run.specs.Marks.{Mark, HasMarked}

-- of so many locations, and of this input, whose positions are numbers of 32 bits
pub record HasPlaces (size : ℕ) (inputs : List ℤ) (noted : ReadMarks) : Type 0 where
  pub of_locations : locations noted.locations ≡ size
  pub of_positions : locations noted.inputs ≡ length inputs
  pub few : length inputs < 2 ^ 32

abbrev pub HasPlacesIfOn : (size : ℕ) → List ℤ → Notes → Type 0
HasPlacesIfOn size inputs notes.Off = Unit {0}
HasPlacesIfOn size inputs (notes.On noted) = HasPlaces size inputs noted

abbrev pub HasMarkedIfOn : (old new : Notes) → List Mark → Type 0
HasMarkedIfOn notes.Off notes.Off ms = Unit {0}
HasMarkedIfOn notes.Off (notes.On new) ms = ⊥
HasMarkedIfOn (notes.On old) notes.Off ms = ⊥
HasMarkedIfOn (notes.On old) (notes.On new) ms = HasMarked old new ms

abbrev pub HasNoted : (noting : Bool) → (old new : Notes) → List Mark → Type 0
HasNoted false old new ms = new ≡ old
HasNoted true old new ms = HasMarkedIfOn old new ms
