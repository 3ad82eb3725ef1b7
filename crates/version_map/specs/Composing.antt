-- What a joiner takes over of a revision that is done.
--
-- Words may be of any sort: those of running code, or the values of a calculus.
--   Entry W           a location that was written: its value, and its root, the word at the fork
--   Merges W          the merge of each location, of the joiner's, the joinee's and the root's word
--   composed          the joiner's new words at the written locations, or the first of them whose merge
--                     faults, with the fault
--   entries           written locations as entries
--   IsComposed        the answer of `compose`
--   FaultsAt          the merge of a written location faults so, of the joiner's word there and the joinee's words
--   TrapsAtLeast      a trap at the least location whose merge faults, and none where no merge does
use Rattle.std.specs.Prelude.{◌≡◌, ◌≤◌, ℕ, List, [], ◌∷◌, map, Result, Ok, Err, Some, slice_get}
use Rattle.rev_num.specs.declared.value.NumFault.{NumFault}
use Rattle.version_map.specs.declared.end.Written.{Written}
use Rattle.version_map.specs.declared.joining.MergeTrap.{MergeTrap}

pub record Entry (W : Type 0) : Type 0 where
  pub location : ℕ
  pub value : W
  pub root : W

abbrev pub Merges : Type 0 → Type 0
Merges W = ℕ → W → W → W → Result W NumFault

-- the first fault, with its location
abbrev pub Composition : Type 0 → Type 0
Composition W = Result (List W) (ℕ × NumFault)

abbrev pub before_later : {W : Type 0} → W → Composition W → Composition W
before_later x (Ok xs) = Ok (x ∷ xs)
before_later x (Err f) = Err f

-- the new word of this location, before those of the later ones
abbrev pub and_later : {W : Type 0} → ℕ → Result W NumFault → Composition W → Composition W
and_later location (Ok x) later = before_later x later
and_later location (Err f) later = Err (location, f)

abbrev pub composed : {W : Type 0} → Merges W → (mains : List W) → List (Entry W) → Composition W
composed merge (main ∷ mains) (e ∷ es) =
    and_later e.location (merge e.location main e.value e.root) (composed merge mains es)
composed merge [] es = Ok []
composed merge (main ∷ mains) [] = Ok []

-- ---- the answer of `compose`

abbrev pub entry : Written → Entry ℕ
entry w = record { location = w.location; value = w.value; root = w.root }

abbrev pub entries : List Written → List (Entry ℕ)
entries ws = map entry ws

-- the new words are those, or the trap is that of the first location whose merge faults
abbrev pub IsComposed : Composition ℕ → Result (Unit {0}) MergeTrap → (values : List ℕ) → Type 0
IsComposed c (Ok done) values = c ≡ Ok values
IsComposed c (Err t) values = c ≡ Err (t.location, t.fault)

-- ---- which merge faults

pub record FaultsAt (merge : Merges ℕ) (mains : List ℕ) (ws : List Written) (location : ℕ) (f : NumFault)
    : Type 0 where
  pub at : ℕ
  pub main : ℕ
  pub entry : Written
  pub main_is : slice_get mains at ≡ Some main
  pub is : slice_get ws at ≡ Some entry
  pub location_is : entry.location ≡ location
  pub faults : merge entry.location main entry.value entry.root ≡ Err f

abbrev pub TrapsAtLeast : Merges ℕ → (mains : List ℕ) → List Written → Result (Unit {0}) MergeTrap → Type 0
TrapsAtLeast merge mains ws (Ok done) = (l : ℕ) (f : NumFault) → FaultsAt merge mains ws l f → ⊥
TrapsAtLeast merge mains ws (Err t) =
    FaultsAt merge mains ws t.location t.fault
    × ((l : ℕ) (f : NumFault) → FaultsAt merge mains ws l f → t.location ≤ l)
