-- Merges of eight triples of numbers.
--   lanes_answer   the merge of each lane, or none where a lane faults
--   AreLanes       eight numbers of 64 bits
use Rattle.std.specs.Prelude.{◌≡◌, ◌<◌, ℕ, ℤ, pos, FitsSigned, slice_index_or, List, [], ◌∷◌, length, Option, Some, None, Result, Ok, Err}
use Rattle.std.specs.Int.{w64}
use Rattle.rev_num.specs.declared.value.NumFault.{NumFault}

abbrev pub NumberMerge : Type 0
NumberMerge = ℤ → ℤ → ℤ → Result ℤ NumFault

abbrev pub before : ℤ → Option (List ℤ) → Option (List ℤ)
before x None = None
before x (Some xs) = Some (x ∷ xs)

abbrev pub and_lanes : Result ℤ NumFault → Option (List ℤ) → Option (List ℤ)
and_lanes (Ok x) later = before x later
and_lanes (Err f) later = None

abbrev pub lanes_answer : NumberMerge → (mains joins roots : List ℤ) → Option (List ℤ)
lanes_answer merge (m ∷ ms) (j ∷ js) (r ∷ rs) = and_lanes (merge m j r) (lanes_answer merge ms js rs)
lanes_answer merge [] js rs = Some []
lanes_answer merge (m ∷ ms) [] rs = Some []
lanes_answer merge (m ∷ ms) (j ∷ js) [] = Some []

abbrev pub AreLanes : List ℤ → Type 0
AreLanes xs = (length xs ≡ 8) × ((i : ℕ) → i < 8 → FitsSigned w64 (slice_index_or xs i (pos 0)))
