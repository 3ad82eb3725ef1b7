-- The pieces of a line that has a path and a line, or a trap.
--   located_text  a path and a line, as a fork or a join has them
--   where_text    a line and a path, as a trap has them
--   IsPlain       a cause that is no merge's, and what stands behind it
--   IsMerge       the cause of a merge
--   EndsSo        an end by a trap with this cause
use Rattle.std.specs.Prelude.{◌≡◌, ℕ, ◌^◌, ◌<◌, List, [], ◌++◌, codes, Option, Some, None}
use Rattle.std.specs.Fmt.{decimal}
use Rattle.rev_num.specs.Text.{path_text}
use Rattle.rev_num.specs.declared.outcome.Cause.{Cause}
use Rattle.rev_num.specs.declared.outcome.Cause.TheVariants as cause
use Rattle.rev_num.specs.declared.value.NumFault.{NumFault}
use Rattle.trace_diagram.specs.Lines.{FitsEnd, FitsPath, cause_text, end_text}
use Rattle.trace_diagram.specs.Places.{IsPlace}
use Rattle.trace_diagram.specs.declared.diagram.PartEnd.{PartEnd}
use Rattle.trace_diagram.specs.declared.lines.Located.{Located}

-- ---- paths and lines

abbrev pub FitsLocated : Located → Type 0
FitsLocated x = FitsPath x.path × (x.line < 2 ^ 32)

abbrev pub located_text : Located → List ℕ
located_text x = path_text x.path ++ (codes " line " ++ decimal x.line)

abbrev pub where_text : Located → List ℕ
where_text x = codes " at line " ++ (decimal x.line ++ (codes " in revision " ++ path_text x.path))

-- ---- causes

abbrev pub NoMerge : Cause → Type 0
NoMerge (cause.Merge location fault) = ⊥
NoMerge _ = Unit {0}

-- the bytes are this cause, which is no merge's, and the rest
pub record IsPlain (c : Cause) (bytes rest : List ℕ) : Type 0 where
  pub plain : NoMerge c
  pub text : bytes ≡ cause_text c [] ++ rest

abbrev pub LacksPlain : List ℕ → Type 0
LacksPlain bytes = (c : Cause) (rest : List ℕ) → IsPlain c bytes rest → ⊥

-- the bytes are the fault of the merge at this place, and the rest
pub record IsMerge (place : List ℕ) (fault : NumFault) (bytes rest : List ℕ) : Type 0 where
  pub place_is : IsPlace place
  pub text : bytes ≡ cause_text (cause.Merge 0 fault) place ++ rest

abbrev pub LacksMerge : List ℕ → Type 0
LacksMerge bytes = (place : List ℕ) (fault : NumFault) (rest : List ℕ) → IsMerge place fault bytes rest → ⊥

-- ---- ends by a trap

-- an end by a trap whose line is this cause and the rest, or none where nothing stands so behind the cause
abbrev pub EndsSo : Cause → List ℕ → List ℕ → Option PartEnd → Type 0
EndsSo c place rest (Some e) = FitsEnd e × (end_text e ≡ codes "end " ++ (cause_text c place ++ rest))
EndsSo c place rest None = (x : Located) → FitsLocated x → where_text x ≡ rest → ⊥
