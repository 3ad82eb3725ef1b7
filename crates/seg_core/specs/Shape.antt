-- The core that segments and holders show.
--   name_of p      the name of a segment, or 0 for none
--   seg_of g       a segment as the core has it
--   list_of r      the references of a holder
--   core_in        the core
--   step_of s      a step as the core names it
--   IsBuiltBy x h  the holder h builds the segment
use Rattle.std.specs.Prelude.{◌≡◌, ℕ, suc, List, [], ◌∷◌, map, Option, None, Some}
use Rattle.version_map.specs.Deltas.{at}
use Rattle.seg_core.specs.declared.segment.Stage.{Stage}
use Rattle.seg_core.specs.declared.segment.Stage.TheVariants as stage
use Rattle.seg_core.specs.declared.segment.References.{References}
use Rattle.seg_core.specs.declared.segment.References.TheVariants as refer
use Rattle.seg_core.specs.declared.segment.Segment.{Segment}
use Rattle.seg_core.specs.declared.step.SegStep.{SegStep}
use Rattle.seg_core.specs.declared.step.SegStep.TheVariants as step
use Rattle.seg_core.specs.Core.{Seg, free, building, live, Core}
use Rattle.seg_core.specs.Steps as core

abbrev pub name_of : Option ℕ → ℕ
name_of None = 0
name_of (Some p) = suc p

abbrev pub shape : Stage → (ℕ → Option ℕ) → Seg
shape stage.Free d = free
shape (stage.Building h) d = building h d
shape (stage.Live p n) d = live d (name_of p) n

abbrev pub delta_of : Segment → ℕ → Option ℕ
delta_of g = at g.delta

abbrev pub seg_of : Segment → Seg
seg_of g = shape g.stage (delta_of g)

abbrev pub list_of : References → List ℕ
list_of refer.Empty = []
list_of (refer.Once c) = suc c ∷ []
list_of (refer.Twice c) = suc c ∷ suc c ∷ []

abbrev pub core_in : List Segment → List References → ℕ → Core
core_in segments holders locations =
    record { segs = free ∷ map seg_of segments; lists = map list_of holders; locations = locations }

abbrev pub step_of : SegStep → core.CoreStep
step_of (step.Claim h c) = core.claim h (suc c)
step_of (step.Put h c l w) = core.put h (suc c) l w
step_of (step.Publish h c) = core.publish h (suc c)
step_of (step.Share h c) = core.share h (suc c)
step_of (step.Release h c) = core.release h (suc c)
step_of (step.Collapse h c) = core.collapse h (suc c)
step_of (step.HandOn h c to) = core.hand_on h (suc c) to

abbrev pub IsBuiltBy : Seg → ℕ → Type 0
IsBuiltBy x h = (d : ℕ → Option ℕ) × (x ≡ building h d)
