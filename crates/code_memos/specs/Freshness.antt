-- A running revision that has listed no fork and no join stands before its first instruction.
--   IsUnlisted        a running revision that has listed none
--   BeginsHere        a local state is that with which its revision began, and is fresh
--   UnlistedBegins    so it is with each such revision of each reached state
--   FreshByNumber     a revision of a world that stands by number for one by path, of which this holds
--   UnlistedByNumber  and with each such revision of a world by number
use Rattle.std.specs.Prelude.{◌≡◌, ℕ, List, [], Some}
use Rattle.rev_num.specs.Path.{Path}
use Rattle.rev_code.specs.State.{State}
use Rattle.revision_machine.specs.Machine.{Entry, Plain, Live, Revisions, Reached}
use Rattle.revision_machine.specs.Laws.{local_of}
use Rattle.revision_machine.specs.Numbered.{Entries, Listing, at_number, paths_of, begin, Replays}
use Rattle.code_memos.specs.Births.{Born}
use Rattle.code_machine.specs.Local.{CodeRun, IsVerified, Local, running, at_work}
use Rattle.code_machine.specs.Machines.{machine, numbered, IsMain, start_in}
use Rattle.code_machine.specs.Renamed.{IsNumbered}
use Rattle.code_memos.specs.Leaf.{Fresh, IsFresh}
use Rattle.code_memos.specs.Memo.{first}

abbrev pub IsUnlisted : {H : Type 0} → Local H → Type 0
IsUnlisted l = (l.phase ≡ running) × (l.state.listed ≡ [])

-- ---- by paths

pub record BeginsHere (g : CodeRun) (number : ℕ) (main : IsMain g number) (fuel : ℕ) (r : Path) (l : Local Path) : Type
    0 where
  pub born : Born (machine g) (first g number main fuel) r l
  pub begins : Fresh Path
  pub fresh : IsFresh g.code begins l.state

abbrev pub UnlistedBegins : Type 0
UnlistedBegins =
    (g : CodeRun) → IsVerified g → (number : ℕ) (main : IsMain g number) (fuel : ℕ) (revs : Revisions (machine g))
    → Reached (machine g) (first g number main fuel) (Live revs)
    → (r : Path) (e : Entry (Local Path)) → revs r ≡ Some e → IsUnlisted (local_of e)
    → BeginsHere g number main fuel r (local_of e)

-- ---- by numbers

pub record FreshByNumber (g : CodeRun) (number : ℕ) (main : IsMain g number) (fuel : ℕ) (t : List Path) (r : Path)
    (b : Local ℕ) : Type 0 where
  pub state : State Path
  pub numbered : IsNumbered t r (at_work state) b
  pub begins : BeginsHere g number main fuel r (at_work state)
  -- by number
  pub here : Fresh ℕ
  pub fresh_here : IsFresh g.code here b.state

abbrev pub UnlistedByNumber : Type 0
UnlistedByNumber =
    (g : CodeRun) → IsVerified g
    → (number : ℕ) (main : IsMain g number) (fuel : ℕ) (ns : List ℕ) (w : Entries (Local ℕ))
    → Replays (numbered g) (begin (numbered g) (start_in g number main.body fuel)) ns (Listing w)
    → (n : ℕ) (r : Path) (b : Local ℕ) → at_number w n ≡ Some (r, Plain b) → IsUnlisted b
    → FreshByNumber g number main fuel (paths_of w) r b
