-- What a run by number tells of leaf revisions, of the memo and of the revisions that are reused.
--   IsEntryOf          the entry of a leaf revision that began in a world by number
--   LeafHasEntry       each has one
--   FoundByNumber      each revision of a world that has listed no fork and no join has an entry
--   RecordedByNumber   so entries of a complete schedule are the memo
--   Refused            a revision has no valid entry, in the state with which it began
--   CountedByNumber    and revisions with a valid entry, where no other is left out, are those reused
--   KnownFor           entries that were recorded with this code
--   AdoptByNumber      where an entry is valid, the revision has a leg, which ends it with what the entry has
use Rattle.std.specs.Prelude.{◌≡◌, ◌⊎◌, ℕ, List, [], length, map, Some}
use Rattle.rev_num.specs.Path.{Path}
use Rattle.rev_code.specs.declared.code.Code.{Code}
use Rattle.rev_code.specs.State.{State}
use Rattle.revision_machine.specs.Machine.{Entry, Plain, Global, start, Complete}
use Rattle.revision_machine.specs.Laws.{local_of, IsIn, IsDistinct}
use Rattle.revision_machine.specs.Numbered as numbers
use Rattle.revision_machine.specs.Numbered.{Entries, World, Both, Listing, at_number, number_of, paths_of, begin, Replays}
use Rattle.code_memos.specs.Births.{Born}
use Rattle.code_machine_laws.specs.LegReads.{leg_reads}
use Rattle.code_machine.specs.Local.{CodeRun, IsVerified, Local, at_work, end_of}
use Rattle.code_machine.specs.Leg.{leg}
use Rattle.code_machine.specs.Machines.{machine, numbered, IsMain, start_in}
use Rattle.code_machine.specs.Renamed.{renamed_word}
use Rattle.code_memos.specs.Renaming.{renamed_read, renamed_end}
use Rattle.code_memos.specs.Leaf.{Fresh, IsFresh, ended_by, Known, IsValid, rerooted}
use Rattle.code_memos.specs.Memo.{first, IsEntry, IsAmong, paths_of as entry_paths, MemoOf, HasValid, ReusedOf}
use Rattle.code_memos.specs.Worlds.{Adopts}
use Rattle.code_memos.specs.Freshness.{FreshByNumber}

module _ (g : CodeRun) (number : ℕ) (main : IsMain g number) (fuel : ℕ) where
  -- of the revision r, which begins with c and ends with l, where these are the paths of the world
  pub record IsEntryOf (t : List Path) (r : Path) (c : State ℕ) (l : Local ℕ) (e : Known) : Type 0 where
    pub entry : IsEntry g number main fuel e
    pub path_is : e.path ≡ r
    pub block_is : c.block ≡ e.block
    pub args_are : (f : Fresh ℕ) → IsFresh g.code f c → f.args ≡ map (renamed_word (number_of t)) e.args
    pub fuel_is : c.fuel ≡ e.fuel
    pub reads_are : leg_reads g c ≡ map (renamed_read (number_of t)) e.reads
    pub end_is : end_of l ≡ renamed_end (number_of t) e.end

  -- ---- recording

  abbrev pub FoundByNumber : Entries (Local ℕ) → List Known → Type 0
  FoundByNumber w es =
      (n : ℕ) (r : Path) (x : Entry (Local ℕ)) → at_number w n ≡ Some (r, x) → (local_of x).state.listed ≡ []
      → (e : Known) × IsAmong g number main fuel e es × (e.path ≡ r)

  -- nothing is asked of Both, where nothing is recorded
  abbrev pub IsRecordedIn : World (Local ℕ) → List Known → Type 0
  IsRecordedIn Both es = es ≡ []
  IsRecordedIn (Listing w) es =
      ((e : Known) → IsAmong g number main fuel e es → IsEntry g number main fuel e)
      × FoundByNumber w es × IsDistinct (entry_paths g number main fuel es)

  -- these entries are the memo of this run
  abbrev pub HasMemo : List Known → Type 0
  HasMemo es =
      (rs : List Path) × (h : Global (Local Path))
      × Complete (machine g) (start (machine g) (first g number main fuel)) rs h
      × MemoOf g number main fuel h es

  -- ---- repeating

  module _ (es : List Known) where
    pub record Refused (r : Path) : Type 0 where
      pub state : State Path
      pub born : Born (machine g) (first g number main fuel) r (at_work state)
      pub begins : Fresh Path
      pub fresh : IsFresh g.code begins state
      pub none : (e : Known) → IsAmong g number main fuel e es → IsValid e r begins g.inputs → ⊥

    abbrev pub IsCountedIn : World (Local ℕ) → List Path → Type 0
    IsCountedIn Both paths = paths ≡ []
    IsCountedIn (Listing w) paths =
        ((r : Path) → IsIn r paths → HasValid g number main fuel es r)
        × ((n : ℕ) (r : Path) (x : Entry (Local ℕ)) → at_number w n ≡ Some (r, x) → (local_of x).state.listed ≡ []
        → IsIn r paths ⊎ Refused r)
        × IsDistinct paths

    -- so many revisions of this run have a valid entry of these
    abbrev pub HasReused : ℕ → Type 0
    HasReused n =
        (rs : List Path) × (h : Global (Local Path))
        × Complete (machine g) (start (machine g) (first g number main fuel)) rs h
        × ReusedOf g number main fuel h es n

-- each is of some run of this code
abbrev pub KnownFor : Code → Known → Type 0
KnownFor code e =
    (g : CodeRun) × (g.code ≡ code) × IsVerified g × (number : ℕ) × (main : IsMain g number) × (fuel : ℕ)
    × IsEntry g number main fuel e

-- ---- laws, of the worlds that legal schedules reach

abbrev pub OfWorlds : ((g : CodeRun) (number : ℕ) (main : IsMain g number) (fuel : ℕ) → World (Local ℕ) → Type 0)
    → Type 0
OfWorlds Law =
    (g : CodeRun) → IsVerified g → (number : ℕ) (main : IsMain g number) (fuel : ℕ) (ns : List ℕ) (w : World (Local ℕ))
    → Replays (numbered g) (begin (numbered g) (start_in g number main.body fuel)) ns w → Law g number main fuel w

-- a revision that has listed nothing and that its leg ends
abbrev pub LeafHasEntry : Type 0
LeafHasEntry =
    (g : CodeRun) → IsVerified g
    → (number : ℕ) (main : IsMain g number) (fuel : ℕ) (ns : List ℕ) (w : Entries (Local ℕ))
    → Replays (numbered g) (begin (numbered g) (start_in g number main.body fuel)) ns (Listing w)
    → (n : ℕ) (r : Path) (c : State ℕ) (l : Local ℕ) → at_number w n ≡ Some (r, Plain (at_work c)) → c.listed ≡ []
    → ended_by (leg g c) ≡ Some l
    → (e : Known) × IsEntryOf g number main fuel (paths_of w) r c l e

abbrev pub RecordedByNumber : Type 0
RecordedByNumber =
    OfWorlds (λ g number main fuel w.
    numbers.IsOver (numbered g) (start_in g number main.body fuel) w
    → (es : List Known) → IsRecordedIn g number main fuel w es → HasMemo g number main fuel es)

abbrev pub CountedByNumber : Type 0
CountedByNumber =
    OfWorlds (λ g number main fuel w.
    numbers.IsOver (numbered g) (start_in g number main.body fuel) w
    → (es : List Known) (paths : List Path) → IsCountedIn g number main fuel es w paths
    → HasReused g number main fuel es (length paths))

-- it is then one of those with a valid entry
pub record IsAdopted (g : CodeRun) (number : ℕ) (main : IsMain g number) (fuel : ℕ) (w : Entries (Local ℕ)) (n : ℕ)
    (r : Path)
    (f : Fresh Path) (es : List Known) (e : Known) : Type 0 where
  pub adopts : Adopts g w n r (renamed_end (number_of (paths_of w)) (rerooted f.snapshot e.end))
  pub valid : IsAmong g number main fuel e es → HasValid g number main fuel es r

abbrev pub AdoptByNumber : Type 0
AdoptByNumber =
    (g : CodeRun) → IsVerified g
    → (number : ℕ) (main : IsMain g number) (fuel : ℕ) (ns : List ℕ) (w : Entries (Local ℕ))
    → Replays (numbered g) (begin (numbered g) (start_in g number main.body fuel)) ns (Listing w)
    → (n : ℕ) (r : Path) (c : State ℕ) → at_number w n ≡ Some (r, Plain (at_work c)) → c.listed ≡ []
    → (x : FreshByNumber g number main fuel (paths_of w) r (at_work c))
    → (es : List Known) (e : Known) → KnownFor g.code e → IsValid e r x.begins.begins g.inputs
    → IsAdopted g number main fuel w n r x.begins.begins es e
