-- What the end of a revision shows, and what a join finds in it.
--   shows_join    a join made the trap: its merges faulted, or the joined revision had trapped
--   IsEntry       a written location, with words of its kind
--   Ascend        the locations stand in ascending order, none before this one
use Rattle.std.specs.Prelude.{◌≡◌, ◌≤◌, ℕ, suc, Bool, true, false, List, [], ◌∷◌, Some, None, slice_get}
use Rattle.rev_num.specs.declared.value.ValueKind.{ValueKind}
use Rattle.rev_num.specs.declared.value.ValueKind.TheVariants as k
use Rattle.rev_code.specs.Words.{Word, kind_of}
use Rattle.rev_code.specs.State.{State}
use Rattle.rev_code.specs.Step.{value_at}
use Rattle.rev_code.specs.Funs.{values}
use Rattle.code_soundness.specs.Typed.{location_kinds}
use Rattle.code_soundness.specs.Funs.{HasValue}
use Rattle.version_map.specs.Endings.{of_merge}
use Rattle.version_map.specs.Composing.{Entry}
use Rattle.code_machine.specs.Local.{CodeRun, IsVerified, Trap, running, trapped, Local, has_ended, end_of}
use Rattle.code_machine.specs.Joining.{merges_of, join}
use Rattle.code_machine.specs.Machines.{Goes, act}
use Rattle.code_machine.specs.Proper.{IsProper}

abbrev pub shows_join : {H : Type 0} → Trap H → Bool
shows_join t = elim t.origin [ Some h ↦ true | None ↦ of_merge t.cause ]

pub record IsEntry {H : Type 0} (kinds : List ValueKind) (e : Entry (Word H)) : Type 0 where
  pub kind : ValueKind
  pub there : slice_get kinds e.location ≡ Some kind
  pub value : kind_of e.value ≡ kind
  pub root : kind_of e.root ≡ kind

abbrev pub AreEntries : {H : Type 0} → List ValueKind → List (Entry (Word H)) → Type 0
AreEntries kinds [] = Unit {0}
AreEntries kinds (e ∷ es) = IsEntry kinds e × AreEntries kinds es

abbrev pub Ascend : {W : Type 0} → ℕ → List (Entry W) → Type 0
Ascend n [] = Unit {0}
Ascend n (e ∷ es) = (n ≤ e.location) × Ascend (suc e.location) es

-- ---- laws

-- a leg's own trap is no join's
abbrev pub OwnTrapsShowIt : Type 0 → Type 0
OwnTrapsShowIt H =
    (g : CodeRun) (l : Local H) (c : State H) (t : Trap H)
    → act g l ≡ Goes (has_ended c (trapped t)) → shows_join t ≡ false

-- a trap of a joiner is the join's
abbrev pub JoinTrapsShowIt : Type 0 → Type 0
JoinTrapsShowIt H =
    (g : CodeRun) (l j : Local H) (t : Trap H) → l.phase ≡ running → (join g l j).phase ≡ trapped t
    → shows_join t ≡ true

-- a join depends on the joinee by its end alone
abbrev pub JoinIsByTheEnd : Type 0 → Type 0
JoinIsByTheEnd H = (g : CodeRun) (l j k : Local H) → end_of j ≡ end_of k → join g l j ≡ join g l k

-- what a revision of a world wrote stands in order, and fits the variables
abbrev pub EndsFit : Type 0 → Type 0
EndsFit H =
    (g : CodeRun) → IsVerified g → (l : Local H) → IsProper g l
    → AreEntries (location_kinds g.code.vars) (end_of l).written × Ascend 0 (end_of l).written

-- a merge block has, for three words of its location's kind, an int or one of the two faults
abbrev pub MergesAreDefined : Type 0 → Type 0
MergesAreDefined H =
    (g : CodeRun) → IsVerified g → (n block : ℕ) (kind : ValueKind)
    → slice_get (merges_of g.code.vars) n ≡ Some (Some block)
    → slice_get (location_kinds g.code.vars) n ≡ Some kind
    → (x y z : Word H) → kind_of x ≡ kind → kind_of y ≡ kind → kind_of z ≡ kind
    → HasValue (Some k.Int) (value_at (slice_get (values g.code) block) (x ∷ y ∷ z ∷ []))
