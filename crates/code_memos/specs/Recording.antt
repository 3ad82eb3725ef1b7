-- What a loop that records has to keep, so that what it kept at the end is the memo; and one that counts.
--   HasFound      each revision of this state that has listed no fork and no join has an entry
--   IsRecorded    each of these entries is one of its revision, each of those has one, and no path has two
--   IsCounted     these paths are those of its revisions that have listed none and have a valid entry
use Rattle.std.specs.Prelude.{◌≡◌, ◌⊎◌, ℕ, List, [], length, Some}
use Rattle.rev_num.specs.Path.{Path}
use Rattle.revision_machine.specs.Machine.{Entry, Live, Revisions, start, Complete}
use Rattle.revision_machine.specs.Laws.{local_of, IsIn, IsDistinct}
use Rattle.code_machine.specs.Local.{CodeRun, IsVerified, Local}
use Rattle.code_machine.specs.Machines.{machine, IsMain}
use Rattle.code_memos.specs.Leaf.{Known}
use Rattle.code_memos.specs.Memo.{first, IsEntry, IsAmong, paths_of, IsMemo, HasValid, IsReused}

module _ (g : CodeRun) (number : ℕ) (main : IsMain g number) (fuel : ℕ) where
  abbrev pub HasFound : Revisions (machine g) → List Known → Type 0
  HasFound h es =
      (r : Path) (x : Entry (Local Path)) → h r ≡ Some x → (local_of x).state.listed ≡ []
      → (e : Known) × IsAmong g number main fuel e es × (e.path ≡ r)

  pub record IsRecorded (h : Revisions (machine g)) (es : List Known) : Type 0 where
    pub each : (e : Known) → IsAmong g number main fuel e es → IsEntry g number main fuel e
    pub found : HasFound h es
    pub once : IsDistinct (paths_of g number main fuel es)

-- what is recorded at the end of a complete run is the memo
abbrev pub RecordedIsMemo : Type 0
RecordedIsMemo =
    (g : CodeRun) → IsVerified g
    → (number : ℕ) (main : IsMain g number) (fuel : ℕ) (rs : List Path) (h : Revisions (machine g))
    → Complete (machine g) (start (machine g) (first g number main fuel)) rs (Live h)
    → (es : List Known) → IsRecorded g number main fuel h es → IsMemo g number main fuel es

-- ---- repeating

-- by these entries: each of these paths is of a leaf revision that has a valid one,
-- and each revision of this state that
-- has listed no fork and no join is of these, or has none
module _ (g : CodeRun) (number : ℕ) (main : IsMain g number) (fuel : ℕ) (es : List Known) where
  abbrev pub HasNone : Path → Type 0
  HasNone r = HasValid g number main fuel es r → ⊥

  pub record IsCounted (h : Revisions (machine g)) (paths : List Path) : Type 0 where
    pub each : (r : Path) → IsIn r paths → HasValid g number main fuel es r
    pub found : (r : Path) (x : Entry (Local Path)) → h r ≡ Some x → (local_of x).state.listed ≡ [] → IsIn r paths
        ⊎ HasNone r
    pub once : IsDistinct paths

-- what is counted at the end of a complete run is how many leaf revisions have a valid entry
abbrev pub CountedIsReused : Type 0
CountedIsReused =
    (g : CodeRun) → IsVerified g
    → (number : ℕ) (main : IsMain g number) (fuel : ℕ) (rs : List Path) (h : Revisions (machine g))
    → Complete (machine g) (start (machine g) (first g number main fuel)) rs (Live h)
    → (es : List Known) (paths : List Path) → IsCounted g number main fuel es h paths
    → IsReused g number main fuel es (length paths)

-- and that is one number
abbrev pub ReusedIsOne : Type 0
ReusedIsOne =
    (g : CodeRun) (number : ℕ) (main : IsMain g number) (fuel : ℕ) (es : List Known) (n k : ℕ)
    → IsReused g number main fuel es n → IsReused g number main fuel es k → n ≡ k
