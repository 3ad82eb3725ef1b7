-- What is kept of a world by number, leg by leg, where a run is recorded or is repeated by entries of another.
--   LeafLeg            the revision of this number has listed no fork and no join, and its leg ends it so
--   IsOverAt           a revision of this path has ended, with or without the mark
--   RecordedSoFar      these are entries of the run, of revisions that have ended,
--                      and each that has listed nothing has one
--   CountedSoFar       these are revisions that have ended and have a valid entry,
--                      and each other one that has ended and has
--                      listed nothing has none in the state with which it began
--   IsRecordedSoFar, IsCountedSoFar
--                      of a world; of one in which a revision was joined twice nothing is said
--   none_in_twice      these, and none in such a world
use Rattle.std.specs.Prelude.{◌≡◌, ◌⊎◌, ℕ, List, [], Some}
use Rattle.rev_num.specs.Path.{Path}
use Rattle.rev_code.specs.State.{State}
use Rattle.revision_machine.specs.Machine.{Entry, Plain}
use Rattle.revision_machine.specs.Laws.{local_of, IsIn, IsDistinct}
use Rattle.revision_machine.specs.Numbered.{Entries, World, Both, Listing, at_number}
use Rattle.code_machine.specs.Local.{CodeRun, Local, at_work}
use Rattle.code_machine.specs.Leg.{leg}
use Rattle.code_machine.specs.Machines.{IsMain}
use Rattle.code_machine.specs.Proper.{IsOver}
use Rattle.code_memos.specs.Leaf.{ended_by, Known}
use Rattle.code_memos.specs.Memo.{IsEntry, IsAmong, paths_of as entry_paths, HasValid}
use Rattle.code_memos.specs.ByNumber.{Refused}

pub record LeafLeg (g : CodeRun) (w : Entries (Local ℕ)) (n : ℕ) (r : Path) (l : Local ℕ) : Type 0 where
  pub state : State ℕ
  pub there : at_number w n ≡ Some (r, Plain (at_work state))
  pub unlisted : state.listed ≡ []
  pub ends : ended_by (leg g state) ≡ Some l

pub record IsOverAt (w : Entries (Local ℕ)) (r : Path) : Type 0 where
  pub number : ℕ
  pub entry : Entry (Local ℕ)
  pub there : at_number w number ≡ Some (r, entry)
  pub over : IsOver (local_of entry)

module _ (g : CodeRun) (number : ℕ) (main : IsMain g number) (fuel : ℕ) where
  pub record RecordedSoFar (w : Entries (Local ℕ)) (es : List Known) : Type 0 where
    pub each : (e : Known) → IsAmong g number main fuel e es → IsEntry g number main fuel e × IsOverAt w e.path
    pub found : (n : ℕ) (r : Path) (x : Entry (Local ℕ)) → at_number w n ≡ Some (r, x) → IsOver (local_of x)
        → (local_of x).state.listed ≡ [] → (e : Known) × IsAmong g number main fuel e es × (e.path ≡ r)
    pub once : IsDistinct (entry_paths g number main fuel es)

  abbrev pub IsRecordedSoFar : World (Local ℕ) → List Known → Type 0
  IsRecordedSoFar Both es = Unit {0}
  IsRecordedSoFar (Listing w) es = RecordedSoFar w es

  -- by these entries
  pub record CountedSoFar (es : List Known) (w : Entries (Local ℕ)) (paths : List Path) : Type 0 where
    pub each : (r : Path) → IsIn r paths → HasValid g number main fuel es r × IsOverAt w r
    pub found : (n : ℕ) (r : Path) (x : Entry (Local ℕ)) → at_number w n ≡ Some (r, x) → IsOver (local_of x)
        → (local_of x).state.listed ≡ [] → IsIn r paths ⊎ Refused g number main fuel es r
    pub once : IsDistinct paths

  abbrev pub IsCountedSoFar : List Known → World (Local ℕ) → List Path → Type 0
  IsCountedSoFar es Both paths = Unit {0}
  IsCountedSoFar es (Listing w) paths = CountedSoFar es w paths

abbrev pub none_in_twice : {A : Type 0} → World (Local ℕ) → List A → List A
none_in_twice Both xs = []
none_in_twice (Listing w) xs = xs
