-- What a machine notes of what instructions read: which locations, which positions of the input, and whether the count.
--   Mark          one of these
--   plain_marks   of an instruction on words without a kind, where `root` knows the locations that were written
--   HasMarked     the notes have these marks more, and no others
use Rattle.std.specs.Prelude.{◌≡◌, ℕ, ℤ, pos, negsuc, Bool, true, false, ◌||◌, nat_eq, is_some, List, [], ◌∷◌, Option, Some, None, slice_get}
use Rattle.rev_num.specs.Words.{int_of}
use Rattle.rev_code.specs.declared.code.CodeVar.{CodeVar}
use Rattle.rev_code.specs.declared.code.Instr.{Instr}
use Rattle.rev_code.specs.declared.code.Instr.TheVariants as i
use Rattle.rev_code.specs.Variables.{Place, scalar, array, cell_at}
use Rattle.version_map.specs.Deltas.{at, locations}
use Rattle.block_run.specs.Plain.{Run}
use Rattle.block_run.specs.declared.notes.ReadMarks.{ReadMarks}

pub data Mark : Type 0 where
  location : ℕ → Mark
  input : ℕ → Mark
  count : Mark

-- ---- on words without a kind

abbrev pub if_first : ℕ → (root : Option ℕ) → List Mark
if_first n None = location n ∷ []
if_first n (Some w) = []

abbrev pub place_marks : (root : ℕ → Option ℕ) → Option ℕ → List Mark
place_marks root None = []
place_marks root (Some n) = if_first n (root n)

abbrev pub scalar_marks : (root : ℕ → Option ℕ) → Option Place → List Mark
scalar_marks root None = []
scalar_marks root (Some p) = place_marks root (Some p.first)

abbrev pub cell_marks : (root : ℕ → Option ℕ) → Option Place → List ℕ → List Mark
cell_marks root (Some p) (w ∷ rest) = place_marks root (cell_at p (int_of w))
cell_marks root _ _ = []

abbrev pub position_marks : ℕ → Option ℤ → List Mark
position_marks n (Some z) = input n ∷ []
position_marks n None = count ∷ []

abbrev pub index_marks : List ℤ → ℤ → List Mark
index_marks inputs (pos n) = position_marks n (slice_get inputs n)
index_marks inputs (negsuc n) = count ∷ []

abbrev pub input_marks : List ℤ → List ℕ → List Mark
input_marks inputs (w ∷ rest) = index_marks inputs (int_of w)
input_marks inputs [] = []

abbrev pub plain_marks : List CodeVar → List ℤ → (root : ℕ → Option ℕ) → Run → Instr → List Mark
plain_marks vars inputs root q (i.LoadShared v) = scalar_marks root (scalar vars v)
plain_marks vars inputs root q (i.LoadCell v) = cell_marks root (array vars v) q.stack
plain_marks vars inputs root q i.LoadInput = input_marks inputs q.stack
plain_marks vars inputs root q i.CountInput = count ∷ []
plain_marks vars inputs root q _ = []

-- ---- notes

abbrev pub has_location : List Mark → ℕ → Bool
has_location [] n = false
has_location (location m ∷ ms) n = nat_eq m n || has_location ms n
has_location (input m ∷ ms) n = has_location ms n
has_location (count ∷ ms) n = has_location ms n

abbrev pub has_input : List Mark → ℕ → Bool
has_input [] n = false
has_input (location m ∷ ms) n = has_input ms n
has_input (input m ∷ ms) n = nat_eq m n || has_input ms n
has_input (count ∷ ms) n = has_input ms n

abbrev pub has_count : List Mark → Bool
has_count [] = false
has_count (location m ∷ ms) = has_count ms
has_count (input m ∷ ms) = has_count ms
has_count (count ∷ ms) = true

pub record HasMarked (old new : ReadMarks) (ms : List Mark) : Type 0 where
  pub locations_are : (n : ℕ) → is_some (at new.locations n) ≡ (has_location ms n || is_some (at old.locations n))
  pub inputs_are : (n : ℕ) → is_some (at new.inputs n) ≡ (has_input ms n || is_some (at old.inputs n))
  pub count_is : new.count ≡ (has_count ms || old.count)
  pub size : locations new.locations ≡ locations old.locations
  pub positions : locations new.inputs ≡ locations old.inputs
