-- The audit of the parts from the last to the first.
--
-- `IsStarts` and `Holds` say what is kept of the revisions that begin; `IsSwept` says how far the audit is.
use Rattle.std.specs.Prelude.{◌≡◌, ◌⊎◌, ℕ, ◌≤◌, ◌<◌, true, false, List, [], length, Option, Some, None, slice_get, if◌then◌else◌}
use Rattle.rev_num.specs.Path.{Path, child, before}
use Rattle.revision_machine.specs.Machine.{Forks}
use Rattle.revision_calculus.specs.Program.{Setting}
use Rattle.revision_calculus.specs.State.{Local}
use Rattle.revision_calculus.specs.Step.{next}
use Rattle.revision_calculus.specs.Calculus.{main, calculus}
use Rattle.rev_audit.specs.declared.alone.LocalState.{LocalState}
use Rattle.trace_diagram.specs.declared.diagram.Part.{Part}
use Rattle.audit_rules.specs.Audited as theory
use Rattle.audit_rules.specs.Audited.{Computed}
use Rattle.audit_rules.specs.Parts.{calculus_parts}
use Rattle.audit_rules.specs.Traces.{part_at, IsComputedPart}
use Rattle.audit_rules.specs.Verdicts.{computed_part}
use Rattle.rev_audit.specs.Own.{BeginsAt}
use Rattle.rev_audit.specs.declared.sweep.Difference.{Difference}

-- it is this revision, or one before it in post-order
abbrev pub IsSoonest : Option LocalState → Path → Type 0
IsSoonest None r = ⊥
IsSoonest (Some u) r = (u.path ≡ r) ⊎ (before u.path r ≡ true)

-- the first of the two in post-order, if there is another
abbrev pub sooner_of : LocalState → Option LocalState → Option LocalState
sooner_of x None = Some x
sooner_of x (Some u) = if before u.path x.path then Some u else Some x

-- what was kept is kept
pub record Grows (starts starts' : List (Option LocalState)) (unstated unstated' : Option LocalState) : Type 0 where
  pub kept : (k : ℕ) (x : LocalState) → slice_get starts k ≡ Some (Some x) → slice_get starts' k ≡ Some (Some x)
  pub sooner : (r : Path) → IsSoonest unstated r → IsSoonest unstated' r

module _ (s : Setting) (fuel : ℕ) (parts : List Part) where
  -- the stated part is the same as the computed one
  abbrev pub IsSamePart : Option Part → Computed Part → Type 0
  IsSamePart = theory.IsSame (calculus s) (calculus_parts s fuel) (main s fuel) (part_at parts)

  abbrev pub IsJustified : Path → Type 0
  IsJustified = theory.Justified (calculus s) (calculus_parts s fuel) (main s fuel) (part_at parts)

  abbrev pub HasPassed : Path → Local → Local → Type 0
  HasPassed = theory.Passes (calculus s) (calculus_parts s fuel) (part_at parts)

  -- this one begins, and has no stated part
  abbrev pub BeginsUnstated : Option LocalState → Type 0
  BeginsUnstated None = Unit {0}
  BeginsUnstated (Some u) = BeginsAt s fuel parts u.path u.local × (part_at parts u.path ≡ None)

  -- where the revisions with a part begin, as far as that is kept, and the first of those without
  pub record IsStarts (starts : List (Option LocalState)) (unstated : Option LocalState) : Type 0 where
    pub count : length starts ≡ length parts
    pub begun : (k : ℕ) (p : Part) (x : LocalState) → slice_get parts k ≡ Some p → slice_get starts k ≡ Some (Some x)
        → (x.path ≡ p.path) × BeginsAt s fuel parts x.path x.local
    pub others : BeginsUnstated unstated

  -- it is kept that this revision begins here: by its part, if that has a number below this one; and if it has no part,
  -- the revision that is kept as the first of those is this one or comes before it
  pub record Holds (i : ℕ) (starts : List (Option LocalState)) (unstated : Option LocalState) (x : LocalState) : Type
      0 where
    pub stated : (k : ℕ) (p : Part) → k < i → slice_get parts k ≡ Some p → p.path ≡ x.path
        → slice_get starts k ≡ Some (Some x)
    pub others : part_at parts x.path ≡ None → IsSoonest unstated x.path

  -- it begins as `main`, or as a child of a revision whose part has this number or a greater one
  pub data BegunFrom (i : ℕ) (x : LocalState) : Type 0 where
    from_main : x.path ≡ [] → x.local ≡ main s fuel → BegunFrom i x
    from_part : (k : ℕ) (p : Part) (first l l' : Local) → i ≤ k → slice_get parts k ≡ Some p
        → BeginsAt s fuel parts p.path first → HasPassed p.path first l → next s p.path l ≡ Forks l' x.local
        → x.path ≡ child p.path l.forks → BegunFrom i x

  -- each part with a number from the first to below the second is the computed one
  abbrev pub AreJustified : ℕ → ℕ → Type 0
  AreJustified i j = (k : ℕ) (p : Part) → i ≤ k → k < j → slice_get parts k ≡ Some p → IsJustified p.path

  -- this one differs, and is the first of those with a number from this one on
  pub record IsFirst (i : ℕ) (d : Difference) : Type 0 where
    pub part : Part
    pub stands : slice_get parts d.index ≡ Some part
    pub late : i ≤ d.index
    pub is : IsComputedPart s fuel parts part.path (computed_part d.computed)
    pub differs : IsSamePart (Some part) (computed_part d.computed) → ⊥
    pub earlier : AreJustified i d.index

  -- the first difference of the parts from this number on
  abbrev pub Differs : ℕ → Option Difference → Type 0
  Differs i None = AreJustified i (length parts)
  Differs i (Some d) = IsFirst i d

  -- what is kept of where revisions begin, once the own runs of the parts from this number on are known
  pub record IsKept (i : ℕ) (starts : List (Option LocalState)) (unstated : Option LocalState) : Type 0 where
    pub starts_are : IsStarts starts unstated
    pub holds : (x : LocalState) → BegunFrom i x → Holds i starts unstated x

  -- what came of the own run of the revision of this part
  abbrev pub ComputedAt : ℕ → Computed Part → Type 0
  ComputedAt i c = (p : Part) → slice_get parts i ≡ Some p → IsComputedPart s fuel parts p.path c

  -- all parts were audited, and each other revision that begins is this one or comes after it
  pub record IsSwept (unstated : Option LocalState) (found : Option Difference) : Type 0 where
    pub starts : List (Option LocalState)
    pub kept : IsKept 0 starts unstated
    pub first : Differs 0 found

  -- the part that differs comes before the revision that has none
  abbrev pub IsAhead : Option LocalState → Option Difference → Type 0
  IsAhead None found = Unit {0}
  IsAhead (Some u) None = ⊥
  IsAhead (Some u) (Some d) = (p : Part) → slice_get parts d.index ≡ Some p → before p.path u.path ≡ true

  -- the part that differs does not come before this revision, which has none
  abbrev pub IsBehind : LocalState → Option Difference → Type 0
  IsBehind u None = Unit {0}
  IsBehind u (Some d) = (p : Part) → slice_get parts d.index ≡ Some p → before p.path u.path ≡ false
