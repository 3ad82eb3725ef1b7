-- What a run by number tells of a leaf revision, of a fresh one, and of one whose entry is valid.
--   FreshBegins   what a world tells of a fresh revision stands for that with which it begins
--   LeafIsTold    a revision that has listed nothing and that its leg ends has an entry, of which the machine tells
--   KnownFits     what an entry of this code has left fits the code
--   AdoptsSo      where a revision is known to end so, its end value is that with which its leg ends it
use Rattle.std.specs.Prelude.{◌≡◌, ℕ, List, [], Some}
use Rattle.rev_num.specs.Path.{Path}
use Rattle.rev_code.specs.declared.code.Code.{Code}
use Rattle.rev_code.specs.State.{State}
use Rattle.version_map.specs.declared.end.EndValue.{EndValue}
use Rattle.revision_machine.specs.Machine.{Plain}
use Rattle.revision_machine.specs.Numbered.{Entries, Listing, at_number, paths_of, begin, Replays}
use Rattle.code_machine_laws.specs.LegReads.{leg_reads}
use Rattle.block_run.specs.declared.notes.ReadMarks.{ReadMarks}
use Rattle.leg_run.specs.Marks.{marks_of, HasMarked}
use Rattle.code_machine.specs.Local.{CodeRun, IsVerified, Local, at_work, End, end_of}
use Rattle.code_machine.specs.Leg.{leg}
use Rattle.code_machine.specs.Machines.{numbered, IsMain, start_in}
use Rattle.code_memos.specs.ByNumber.{KnownFor}
use Rattle.code_memos.specs.Freshness.{FreshByNumber}
use Rattle.code_memos.specs.Leaf.{Fresh, IsFresh, ended_by, Known}
use Rattle.code_memos.specs.Memo.{IsEntry}
use Rattle.code_memos.specs.Worlds.{Adopts}
use Rattle.rev_vm.specs.Meaning.{IsEnd}
use Rattle.code_world.specs.declared.freshness.FreshStart as rust
use Rattle.code_world.specs.Adopted.{EndsSo}
use Rattle.code_world.specs.Beginnings.{IsBegun}
use Rattle.rev_record.specs.Begins.{BeginsAt}
use Rattle.rev_record.specs.Standing.{EndFits}
use Rattle.rev_record.specs.Told.{IsBlank, IsTold}

-- of a running revision that has listed nothing, in a world that a legal schedule reaches
abbrev pub OfUnlisted : ((g : CodeRun) (number : ℕ) (main : IsMain g number) (fuel : ℕ) → Entries (Local ℕ) → Path
    → State ℕ → Type 0) → Type 0
OfUnlisted Law =
    (g : CodeRun) → IsVerified g
    → (number : ℕ) (main : IsMain g number) (fuel : ℕ) (ns : List ℕ) (w : Entries (Local ℕ))
    → Replays (numbered g) (begin (numbered g) (start_in g number main.body fuel)) ns (Listing w)
    → (n : ℕ) (r : Path) (c : State ℕ) → at_number w n ≡ Some (r, Plain (at_work c)) → c.listed ≡ []
    → Law g number main fuel w r c

abbrev pub FreshBegins : Type 0
FreshBegins =
    OfUnlisted (λ g number main fuel w r c.
    (y : FreshByNumber g number main fuel (paths_of w) r (at_work c))
    → (here : Fresh ℕ) → IsFresh g.code here c → (x : rust.FreshStart) → IsBegun here x
    → BeginsAt g.code (paths_of w) y.begins.begins x)

pub record HasLeafEntry (g : CodeRun) (number : ℕ) (main : IsMain g number) (fuel : ℕ) (t : List Path) (r : Path)
    (x : rust.FreshStart) (noted : ReadMarks) (v : EndValue) : Type 0 where
  pub known : Known
  pub entry : IsEntry g number main fuel known
  pub path : known.path ≡ r
  pub fresh : Fresh Path
  pub begins : BeginsAt g.code t fresh x
  pub told : IsTold g t fresh noted v known

abbrev pub LeafIsTold : Type 0
LeafIsTold =
    OfUnlisted (λ g number main fuel w r c.
    (l : Local ℕ) → ended_by (leg g c) ≡ Some l
    → (here : Fresh ℕ) → IsFresh g.code here c → (x : rust.FreshStart) → IsBegun here x
    → (blank noted : ReadMarks) → IsBlank blank → HasMarked blank noted (marks_of (leg_reads g c))
    → (v : EndValue) → IsEnd g (end_of l) v
    → HasLeafEntry g number main fuel (paths_of w) r x noted v)

abbrev pub KnownFits : Type 0
KnownFits = (code : Code) (e : Known) → KnownFor code e → EndFits code e.end

abbrev pub AdoptsSo : Type 0
AdoptsSo =
    (g : CodeRun) (w : Entries (Local ℕ)) (n : ℕ) (r : Path) (c : State ℕ) → at_number w n ≡ Some (r, Plain (at_work c))
    → (end : End ℕ) → Adopts g w n r end → (v : EndValue) → IsEnd g end v → EndsSo g w n v
