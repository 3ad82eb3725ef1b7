-- A valid entry tells how a fresh revision ends.
use Rattle.std.specs.Prelude.{◌≡◌, ℕ, ℤ, List, length, map, Some}
use Rattle.rev_num.specs.Path.{Path}
use Rattle.rev_code.specs.State.{Setting, State}
use Rattle.rev_code.specs.declared.code.Code.{Code}
use Rattle.rev_code.specs.Step.{reach}
use Rattle.rev_code.specs.Funs.{setting}
use Rattle.code_machine_laws.specs.Reads.{reach_reads}
use Rattle.code_machine_laws.specs.ReadLaws.{with_inputs}
use Rattle.code_machine.specs.Local.{Local, end_of}
use Rattle.code_machine.specs.Renamed.{renamed_as}
use Rattle.code_memos.specs.Renaming.{renamed_read, renamed_event, renamed_end}
use Rattle.code_memos.specs.Leaf.{Fresh, IsFresh, ended_by, Known, IsKnown, IsValid, rerooted}

-- a revision that begins with f' ends by its leg, with what the entry has, over its own snapshot; it reads what the
-- entry's revision read, and forks and joins nothing, as that one did not
pub record EndsAs (s : Setting Path) (k : ℕ) (f : Fresh Path) (c : State Path) (e : Known) : Type 0 where
  pub after : Local Path
  pub ended : ended_by (reach s k c) ≡ Some after
  pub end_is : end_of after ≡ rerooted f.snapshot e.end
  pub reads_are : reach_reads s k c ≡ e.reads

-- the two runs have the same code, and so the same locations
abbrev pub ValidIsTheEnd : Type 0
ValidIsTheEnd =
    (s : Setting Path) (k : ℕ) (path path' : Path) (c c' : State Path) (e : Known) (known : IsKnown s k path c e)
    (f' : Fresh Path) (inputs : List ℤ) (share : ℕ)
    → IsFresh s.code f' c' → length f'.snapshot ≡ length known.begins.snapshot
    → IsValid e path' f' inputs
    → EndsAs (with_inputs s inputs share) k f' c' e

-- what a leg comes to and what it reads is the same whatever a handle is: f names the handles anew
pub record LegIsRenamed {H K : Type 0} (f : H → K) (code : Code) (inputs : List ℤ) (share k m : ℕ) (c : State H) : Type
    0 where
  pub event :
      reach (setting code inputs share) k (renamed_as f m c)
      ≡ renamed_event f m (reach (setting code inputs share) k c)
  pub reads :
      reach_reads (setting code inputs share) k (renamed_as f m c)
      ≡ map (renamed_read f) (reach_reads (setting code inputs share) k c)

abbrev pub LegsAreRenamed : Type 0 → Type 0 → Type 0
LegsAreRenamed H K =
    (f : H → K) (code : Code) (inputs : List ℤ) (share k m : ℕ) (c : State H)
    → LegIsRenamed f code inputs share k m c

-- and so is what a revision leaves that ends by it
abbrev pub EndsAreRenamed : Type 0 → Type 0 → Type 0
EndsAreRenamed H K =
    (f : H → K) (code : Code) (inputs : List ℤ) (share k m : ℕ) (c : State H) (l : Local H)
    → ended_by (reach (setting code inputs share) k c) ≡ Some l
    → (l' : Local K) × (ended_by (reach (setting code inputs share) k (renamed_as f m c)) ≡ Some l')
    × (end_of l' ≡ renamed_end f (end_of l))
