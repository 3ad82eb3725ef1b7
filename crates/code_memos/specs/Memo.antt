-- The memo of a run, whatever its schedule, and how many revisions of another run it is valid for.
--   IsLeaf      a revision that begins so, and whose first leg ends it
--   IsEntry     an entry of a leaf revision
--   IsMemo      one entry for each leaf revision, and no other
--   IsReused    as many leaf revisions have a valid entry
--   MemoOf, ReusedOf   and none where the run comes to Twice
use Rattle.std.specs.Prelude.{◌≡◌, ◌↔◌, ◌⊎◌, ℕ, List, [], ◌∷◌, length, Some}
use Rattle.rev_num.specs.Path.{Path}
use Rattle.rev_code.specs.State.{State}
use Rattle.revision_machine.specs.Machine.{Global, Twice, Live, Revisions, start, Complete}
use Rattle.revision_machine.specs.Laws.{IsIn, IsDistinct}
use Rattle.code_memos.specs.Births.{Born}
use Rattle.code_machine.specs.Local.{CodeRun, IsVerified, under, Local, at_work}
use Rattle.code_machine.specs.Leg.{leg, clock}
use Rattle.code_machine.specs.Machines.{machine, IsMain, start_in}
use Rattle.code_memos.specs.Leaf.{Fresh, IsFresh, ended_by, Known, IsKnown, IsValid}

module _ (g : CodeRun) (number : ℕ) (main : IsMain g number) (fuel : ℕ) where
  abbrev pub first : Local Path
  first = start_in g number main.body fuel

  pub record IsLeaf (r : Path) (f : Fresh Path) : Type 0 where
    pub state : State Path
    pub born : Born (machine g) first r (at_work state)
    pub fresh : IsFresh g.code f state
    pub after : Local Path
    pub ends : ended_by (leg g state) ≡ Some after

  pub record IsEntry (e : Known) : Type 0 where
    pub state : State Path
    pub born : Born (machine g) first e.path (at_work state)
    pub known : IsKnown (under g) (clock g state) e.path state e

  abbrev pub IsAmong : Known → List Known → Type 0
  IsAmong e [] = ⊥
  IsAmong e (x ∷ es) = (e ≡ x) ⊎ IsAmong e es

  abbrev pub paths_of : List Known → List Path
  paths_of [] = []
  paths_of (e ∷ es) = e.path ∷ paths_of es

  pub record IsMemo (es : List Known) : Type 0 where
    pub each : (e : Known) → IsAmong e es → IsEntry e
    pub all : (r : Path) (f : Fresh Path) → IsLeaf r f → (e : Known) × IsAmong e es × (e.path ≡ r)
    pub once : IsDistinct (paths_of es)

  -- of these entries
  abbrev pub HasValid : List Known → Path → Type 0
  HasValid es r = (f : Fresh Path) × IsLeaf r f × (e : Known) × IsAmong e es × IsValid e r f g.inputs

  pub record IsReused (es : List Known) (n : ℕ) : Type 0 where
    pub paths : List Path
    pub distinct : IsDistinct paths
    pub are : (r : Path) → IsIn r paths ↔ HasValid es r
    pub count : length paths ≡ n

  -- of the end of the run's complete runs, which is one
  abbrev pub MemoOf : Global (Local Path) → List Known → Type 0
  MemoOf Twice es = es ≡ []
  MemoOf (Live revs) es = IsMemo es

  abbrev pub ReusedOf : Global (Local Path) → List Known → ℕ → Type 0
  ReusedOf Twice es n = n ≡ 0
  ReusedOf (Live revs) es n = IsReused es n

-- ---- laws

-- where the complete runs do not come to Twice, a revision has one entry, whatever the schedule
abbrev pub OneEntry : Type 0
OneEntry =
    (g : CodeRun) → IsVerified g
    → (number : ℕ) (main : IsMain g number) (fuel : ℕ) (rs : List Path) (h : Revisions (machine g))
    → Complete (machine g) (start (machine g) (first g number main fuel)) rs (Live h)
    → (e e' : Known) → IsEntry g number main fuel e → IsEntry g number main fuel e' → e.path ≡ e'.path → e ≡ e'

-- and so two memos of it have the same entries
abbrev pub OneMemo : Type 0
OneMemo =
    (g : CodeRun) → IsVerified g
    → (number : ℕ) (main : IsMain g number) (fuel : ℕ) (rs : List Path) (h : Revisions (machine g))
    → Complete (machine g) (start (machine g) (first g number main fuel)) rs (Live h)
    → (es es' : List Known) → IsMemo g number main fuel es → IsMemo g number main fuel es'
    → (e : Known) → IsAmong g number main fuel e es → IsAmong g number main fuel e es'
