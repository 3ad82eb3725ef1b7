-- Which handles a local state holds, and the amounts that its steps use up.
use Rattle.std.specs.Prelude.{◌≡◌, ◌⊎◌, ℕ, ◌+◌, ◌*◌, List, [], ◌∷◌, length, Option, Some}
use Rattle.rev_num.specs.Path.{Path}
use Rattle.rev_num.specs.declared.value.Value.{Value}
use Rattle.rev_num.specs.declared.value.Value.TheVariants as v
use Rattle.name_tables.specs.Names.{Name}
use Rattle.name_tables.specs.Table.{Table}
use Rattle.revision_calculus.specs.State.{Location, Frame, Phase, running, joining, done, trapped, Local}

-- ---- handles

-- the value is the handle of the revision at q
abbrev pub IsHandle : Value → Path → Type 0
IsHandle x q = x ≡ v.Rev (Some q)

-- in the snapshot or in the writes
abbrev pub LocationsHold : List Location → Path → Type 0
LocationsHold [] q = ⊥
LocationsHold (m ∷ ms) q = (IsHandle m.base q ⊎ (m.written ≡ Some (v.Rev (Some q)))) ⊎ LocationsHold ms q

abbrev pub LocalsHold : Table Value → Path → Type 0
LocalsHold [] q = ⊥
LocalsHold (e ∷ es) q = IsHandle e.1 q ⊎ LocalsHold es q

abbrev pub FramesHold : List Frame → Path → Type 0
FramesHold [] q = ⊥
FramesHold (f ∷ fs) q = LocalsHold f.locals q ⊎ FramesHold fs q

-- the handle of q stands in the snapshot or the writes, in the locals of a frame, or in the phase
pub data Holds (l : Local) (q : Path) : Type 0 where
  in_locations : LocationsHold l.locations q → Holds l q
  in_frames : FramesHold l.frames q → Holds l q
  in_phase : (left : Option Name) → l.phase ≡ joining q left → Holds l q

-- ---- amounts

-- the frames beyond the first
abbrev pub beyond_first : List Frame → ℕ
beyond_first [] = 0
beyond_first (f ∷ fs) = length fs

-- Two for each unit of fuel: a statement takes one, and what it leads to the other, which is the end of a frame or of
-- a child, or a join. One that has not ended has one more for its end and for the end of each further frame, and one
-- that waits has one for its join.
abbrev pub weight_at : Phase → List Frame → ℕ → ℕ
weight_at running fs fuel = 2 * fuel + 1 + beyond_first fs
weight_at (joining q left) fs fuel = 2 * fuel + 2 + beyond_first fs
weight_at done fs fuel = 2 * fuel
weight_at (trapped t) fs fuel = 2 * fuel

abbrev pub weight : Local → ℕ
weight l = weight_at l.phase l.frames l.fuel
